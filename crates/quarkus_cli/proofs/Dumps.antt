-- The outcomes of `dump`, over the bytes that were read.
use Rattle.std.proofs.Common.{◌≡◌, ◌≢◌, refl, ap, sym, subst, ℕ, ◌+◌, ◌≤◌, ◌⊎◌, inl, inr, List, length, take, Option, Some, None, option_map, IfSome, codes, arith}
use Rattle.std.proofs.lemmas.List.{length-take, take_all}
use Rattle.aug_base.specs.Files.{Files}
use Rattle.aug_base.specs.Shelves.{Holds}
use Rattle.command_words.specs.declared.command.Command.TheVariants.{Dump}
use Rattle.quarkus_cli.specs.declared.outcome.Outcome.{Outcome}
use Rattle.quarkus_cli.specs.Outcomes.{CommandOutcome, OfClass, OfClassFile, OfDump, OfSize, Told, no_class}
use Rattle.quarkus_cli.specs.Answers.{IsFinal}
use Rattle.quarkus_cli.proofs.Ends.{told_read}

module _ (Then : List ℕ → Outcome → Type 0) (large : Outcome) (limit : ℕ) where
  -- the first bytes past the limit tell what the whole file comes to
  pub sized_cut : (bytes : List ℕ) (o : Outcome) → OfSize limit Then large (take (limit + 1) bytes) o → OfSize limit Then large bytes o
  sized_cut bytes o of =
      let e = length-take (limit + 1) bytes in
      elim of [
        | inl big ↦ inl (omega (arith, e, big.0), big.1)
        | inr small ↦
            let le : length bytes ≤ limit = omega (arith, e, small.0) in
            inr (le, subst (λ b. Then b o) (take_all (limit + 1) bytes (omega (arith, le))) small.1)
      ]

of_file : (name bytes : List ℕ) (limit : ℕ) (o : Outcome) (at : Option (List ℕ)) → limit ≡ 2_000_000 → option_map (take (limit + 1)) at ≡ Some bytes
    → OfSize limit (OfClass name) (no_class name (codes "too large")) bytes o → OfDump name at o
of_file name bytes limit o None is has of = absurd (cc)
of_file name bytes limit o (Some whole) is has of =
    let e : take (limit + 1) whole ≡ bytes = cc in
    let cut : OfSize limit (OfClass name) (no_class name (codes "too large")) whole o
    = sized_cut (OfClass name) (no_class name (codes "too large")) limit whole o (subst (λ b. OfSize limit (OfClass name) (no_class name (codes "too large")) b o) (sym e) of) in
    subst (λ n. OfSize n (OfClass name) (no_class name (codes "too large")) whole o) is cut

abbrev pub IsDumpStatus : ℕ → Type 0
IsDumpStatus n = (n ≡ 0) ⊎ (n ≡ 9)

status_of : (o with_status : Outcome) → o ≡ with_status → o.status ≡ with_status.status
status_of o with_status is = ap (λ (o : Outcome). o.status) is

dump_status : (name bytes : List ℕ) (o : Outcome) → OfClassFile name bytes o → IsDumpStatus o.status
dump_status name bytes o of = elim of [
  | inl big ↦ inr (status_of o _ big.1)
  | inr small ↦ elim small.1 [ inl done ↦ inl (status_of o _ done.2) | inr refused ↦ inr (status_of o _ refused.2) ]
]

final : (n : ℕ) → IsDumpStatus n → IsFinal n
final n is = elim is [ inl z ↦ inl (omega (arith, z)) | inr h ↦ inr (omega (arith, h), omega (arith, h)) ]

not_one : (n : ℕ) → IsDumpStatus n → n ≢ 1
not_one n is one = elim is [ inl z ↦ omega (arith, z, one) | inr h ↦ omega (arith, h, one) ]

pub dump_allows : (file bytes : List ℕ) (files : Option Files) (o : Outcome) → OfClassFile file bytes o → IfSome files (λ m. Holds m file 2_000_001 bytes)
    → Told (CommandOutcome (Dump file)) files o × IsFinal o.status
dump_allows file bytes files o of holds =
    let status = dump_status file bytes o of in (
      told_read (CommandOutcome (Dump file)) file bytes 2_000_001 files o (not_one o.status status) (λ m has. of_file file bytes 2_000_000 o (m file) refl has of) holds,
      final o.status status,
    )
