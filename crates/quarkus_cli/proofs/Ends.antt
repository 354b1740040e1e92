-- How a command ends, by what its reads, writes and puts came to.
use Rattle.std.proofs.Common.{◌≡◌, ◌≢◌, ◌∙◌, ap, refl, sym, subst, ℕ, ◌≤◌, ◌⊎◌, inl, inr, List, [], ◌++◌, append-nil, take, Option, Some, None, option_map, IfSome, IsSome, Ok, Err, arith}
use Rattle.aug_base.specs.Causes.{Rose}
use Rattle.aug_base.specs.Files.{Files, with_files}
use Rattle.aug_base.specs.Shelves.{Shelved, Reads, Holds, Lacks}
use Rattle.aug_base.specs.Sinks.{Taken, GrowsBySome, PutsAll}
use Rattle.aug_base.specs.declared.errors.ShelfErr.{ShelfErr}
use Rattle.aug_base.specs.declared.errors.SinkErr.{SinkErr}
use Rattle.quarkus_cli.specs.declared.outcome.Outcome.{Outcome}
use Rattle.quarkus_cli.specs.Outcomes.{Told, nothing, absent}
use Rattle.quarkus_cli.specs.Answers.{Outside, outside, Later, Done, FilesInPart, TextInPart, DoneInPart, IsFinal, Answers}
use Rattle.quarkus_cli.specs.Ends.{Stopped, WritesAll, Delivers}

lacks_told : (name : List ℕ) (files : Option Files) → Lacks files name → IsSome files
lacks_told name None lacks = cc (lacks.1)
lacks_told name (Some k) lacks = refl

-- an outcome that holds wherever the name is absent holds where the map lacks it
pub told_absent : (allows : Files → Outcome → Type 0) (name : List ℕ) (files : Option Files)
    → ((m : Files) → m name ≡ None → allows m absent) → Lacks files name → Told allows files absent
told_absent allows name None at lacks = (λ is. omega (arith, is), tt)
told_absent allows name (Some k) at lacks =
    let q : k ≡ lacks.0 = cc (lacks.1) in
    let e : k name ≡ None = ap (λ (f : Files). f name) q ∙ lacks.2 in
    (λ is. omega (arith, is), at k e)

-- one that holds wherever the map has these first bytes holds where they were read
pub told_read : (allows : Files → Outcome → Type 0) (name bytes : List ℕ) (limit : ℕ) (files : Option Files) (o : Outcome)
    → o.status ≢ 1 → ((m : Files) → option_map (take limit) (m name) ≡ Some bytes → allows m o)
    → IfSome files (λ m. Holds m name limit bytes) → Told allows files o
told_read allows name bytes limit None o not at holds = (not, tt)
told_read allows name bytes limit (Some m) o not at holds = (not, at m holds)

same_files : (before now : Option Files) → now ≡ before → now ≡ option_map (with_files []) before
same_files None now is = is
same_files (Some m) now is = is

pub same_text : (before : Option (List ℕ)) → before ≡ option_map (λ s. s ++ []) before
same_text None = refl
same_text (Some s) = ap Some (sym (append-nil s))

pub nothing_done : (before now : Shelved) (sink : Taken) → now.files ≡ before.files
    → Done nothing (outside before sink) (outside now sink)
nothing_done before now sink is = record { files = same_files before.files now.files is; text = same_text sink.bytes }

-- nothing of an outcome is done yet
pub not_begun : (o : Outcome) (shelf : Shelved) (sink : Taken) → DoneInPart o (outside shelf sink) (outside shelf sink)
not_begun o shelf sink =
    let part : FilesInPart o (outside shelf sink) (outside shelf sink)
    = record { files = ([], o.files, refl, inl (same_files shelf.files shelf.files refl)); text = refl } in
    inl part

pub not_final : (n : ℕ) → IsFinal n → 6 ≤ n → n ≤ 8 → ⊥
not_final n final low high = elim final [ inl h ↦ omega (arith, h, low) | inr h ↦ omega (arith, h.0, high) ]

at_most_eleven : (n : ℕ) → IsFinal n → n ≤ 11
at_most_eleven n final = elim final [ inl h ↦ omega (arith, h) | inr h ↦ h.1 ]

-- a write of the files that stopped
pub unwritten : (o : Outcome) (before now : Shelved) (sink : Taken) (fault : ShelfErr) (answer : ℕ) → WritesAll o.files before now (Err fault)
    → (answer ≡ 8) ⊎ ((answer ≡ 7) × Rose before.write_faults now.write_faults) → Delivers o (outside before sink) (outside now sink) answer
unwritten o before now sink fault answer writes cause =
    let some : FilesInPart o (outside before sink) (outside now sink) = record { files = writes.err; text = refl } in
    let part : DoneInPart o (outside before sink) (outside now sink) = inl some in
    record {
      reads = writes.reads;
      later = record { reads = omega (arith, writes.reads); writes = writes.later; puts = omega arith };
      cases = elim cause [ inl memory ↦ inr (inr (memory, part)) | inr failed ↦ inr (inl (failed.0, inl failed.1, part)) ];
    }

-- a put of the text that stopped, after all files were written
pub unsaid : (o : Outcome) (before now : Shelved) (sink then : Taken) (text : List ℕ) (fault : SinkErr) (answer : ℕ) → WritesAll o.files before now (Ok tt)
    → text ≡ o.text → PutsAll text sink then (Err fault) → (answer ≡ 8) ⊎ ((answer ≡ 7) × Rose sink.faults then.faults)
    → Delivers o (outside before sink) (outside now then) answer
unsaid o before now sink then text fault answer writes is puts cause =
    let some : TextInPart o (outside before sink) (outside now then)
    = record { writes = writes.kept; files = writes.ok; text = subst (λ t. GrowsBySome t sink.bytes then.bytes) is puts.err } in
    let part : DoneInPart o (outside before sink) (outside now then) = inr some in
    record {
      reads = writes.reads;
      later = record { reads = omega (arith, writes.reads); writes = writes.later; puts = puts.later };
      cases = elim cause [ inl memory ↦ inr (inr (memory, part)) | inr failed ↦ inr (inl (failed.0, inr failed.1, part)) ];
    }

module _ (Allows Stops : Outcome → Type 0) where
  unread : (before now : Outside) → Later before now → (o : Outcome) → Stops o → Done o before now
      → (IsSome before.shelf.files × ((o : Outcome) × Allows o × (o.status ≡ 6))) ⊎ Rose before.shelf.read_faults now.shelf.read_faults
      → Answers Allows Stops before now 6
  unread before now later o stops done cause = record {
    known = omega arith;
    later = later;
    quiet = λ final. absurd (not_final 6 final (omega arith) (omega arith));
    done = λ final. absurd (not_final 6 final (omega arith) (omega arith));
    missing = λ _. cause;
    missing_leaves = λ _. (o, stops, done);
    failed = λ is. absurd (omega (arith, is));
    failed_leaves = λ is. absurd (omega (arith, is));
    spent_leaves = λ is. absurd (omega (arith, is));
  }

  pub no_memory : (before now : Outside) → Later before now
      → ((o : Outcome) × Stops o × Done o before now) ⊎ ((o : Outcome) × Allows o × DoneInPart o before now) → Answers Allows Stops before now 8
  no_memory before now later left = record {
    known = omega arith;
    later = later;
    quiet = λ final. absurd (not_final 8 final (omega arith) (omega arith));
    done = λ final. absurd (not_final 8 final (omega arith) (omega arith));
    missing = λ is. absurd (omega (arith, is));
    missing_leaves = λ is. absurd (omega (arith, is));
    failed = λ is. absurd (omega (arith, is));
    failed_leaves = λ is. absurd (omega (arith, is));
    spent_leaves = λ _. left;
  }

  -- a read that stops a command
  pub stopped_read : (name : List ℕ) (before now : Shelved) (sink : Taken) (status : ℕ) → Stops nothing
      → (Lacks before.files name → Allows absent) → Stopped name before now status
      → Answers Allows Stops (outside before sink) (outside now sink) status
  stopped_read name before now sink status stops at stopped =
      let later : Later (outside before sink) (outside now sink)
      = record { reads = stopped.reads; writes = omega (arith, stopped.writes); puts = omega arith } in
      let done = nothing_done before now sink stopped.files in
      elim stopped.cases [
        | inl m ↦ rw m (no_memory _ _ later (inl (nothing, stops, done)))
        | inr c ↦ rw c.0 (unread _ _ later nothing stops done (elim c.1 [
          | inl lacks ↦ inl (lacks_told name before.files lacks, (absent, at lacks, refl))
          | inr rose ↦ inr rose
        ]))
      ]

  pub stopped_memory : (before now : Shelved) (sink : Taken) → Stops nothing → now.files ≡ before.files
      → now.read_faults ≡ before.read_faults → now.write_faults ≡ before.write_faults
      → Answers Allows Stops (outside before sink) (outside now sink) 8
  stopped_memory before now sink stops files reads writes =
      no_memory _ _ (record { reads = omega (arith, reads); writes = omega (arith, writes); puts = omega arith })
      (inl (nothing, stops, nothing_done before now sink files))

  -- an outcome that is delivered last
  pub delivered_at : (o : Outcome) (before now : Outside) (answer : ℕ) → Allows o → IsFinal o.status
      → Delivers o before now answer → Answers Allows Stops before now answer
  delivered_at o before now answer allows final delivers =
      let no : 6 ≤ o.status → o.status ≤ 8 → ⊥ = not_final o.status final in
      elim delivers.cases [
        | inl c ↦ rw c.0 (record {
          known = at_most_eleven o.status final;
          later = delivers.later;
          quiet = λ _. c.1;
          done = λ _. (o, allows, refl, c.2);
          missing = λ is. absurd (no (omega (arith, is)) (omega (arith, is)));
          missing_leaves = λ is. absurd (no (omega (arith, is)) (omega (arith, is)));
          failed = λ is. absurd (no (omega (arith, is)) (omega (arith, is)));
          failed_leaves = λ is. absurd (no (omega (arith, is)) (omega (arith, is)));
          spent_leaves = λ is. absurd (no (omega (arith, is)) (omega (arith, is)));
        })
        | inr d ↦ elim d [
          | inl c ↦ rw c.0 (record {
            known = omega arith;
            later = delivers.later;
            quiet = λ f. absurd (not_final 7 f (omega arith) (omega arith));
            done = λ f. absurd (not_final 7 f (omega arith) (omega arith));
            missing = λ is. absurd (omega (arith, is));
            missing_leaves = λ is. absurd (omega (arith, is));
            failed = λ _. c.1;
            failed_leaves = λ _. (o, allows, (λ six. no (omega (arith, six)) (omega (arith, six))), c.2);
            spent_leaves = λ is. absurd (omega (arith, is));
          })
          | inr c ↦ rw c.0 (record {
            known = omega arith;
            later = delivers.later;
            quiet = λ f. absurd (not_final 8 f (omega arith) (omega arith));
            done = λ f. absurd (not_final 8 f (omega arith) (omega arith));
            missing = λ is. absurd (omega (arith, is));
            missing_leaves = λ is. absurd (omega (arith, is));
            failed = λ is. absurd (omega (arith, is));
            failed_leaves = λ is. absurd (omega (arith, is));
            spent_leaves = λ _. inr (o, allows, c.1);
          })
        ]
      ]

-- an outcome delivered after a read
pub read_delivered : (Allows Stops : Outcome → Type 0) (name bytes : List ℕ) (limit : ℕ) (o : Outcome) (before middle now : Shelved) (sink then : Taken) (answer : ℕ)
    → Reads name limit before middle (Ok bytes) → Allows o × IsFinal o.status
    → Delivers o (outside middle sink) (outside now then) answer
    → Answers Allows Stops (outside before sink) (outside now then) answer
read_delivered Allows Stops name bytes limit o before middle now sink then answer reads allows delivers =
    let e : middle ≡ before = λ i. record { read_faults = reads.kept i; write_faults = reads.writes i; files = reads.files i } in
    delivered_at Allows Stops o _ _ answer allows.0 allows.1 (rw e at delivers)

-- want of memory after a read
pub read_memory : (Allows Stops : Outcome → Type 0) (name bytes : List ℕ) (limit : ℕ) (before middle : Shelved) (sink : Taken)
    → Reads name limit before middle (Ok bytes) → Stops nothing
    → Answers Allows Stops (outside before sink) (outside middle sink) 8
read_memory Allows Stops name bytes limit before middle sink reads stops =
    stopped_memory Allows Stops before middle sink stops reads.files reads.kept reads.writes
