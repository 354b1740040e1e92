-- The names of a project's steps are plain and tell the steps apart.
use Rattle.std.proofs.Common.{◌≡◌, inl, inr, ◌∙◌, refl, sym, subst, arith, ℕ, zero, suc, ◌<◌, true, not, ◌&&◌, ◌||◌, ◌==◌, List, [], ◌∷◌, ◌++◌, append_assoc, length, map, Result, Ok, Err, IfOk}
use Rattle.std.specs.List.{All, flat_map, list_all, slice_index_or}
use Rattle.std.specs.Prelude.{codes, nat_le}
use Rattle.std.proofs.lemmas.Bool.Decides.{eqb_tells}
use Rattle.std.proofs.lemmas.List.{map-append}
use Rattle.std.proofs.lemmas.List.Elements.{All-head, All-tail}
use Rattle.item_types.specs.declared.step.StepDecl.{StepDecl}
use Rattle.ext_draft.specs.DraftOfTheBytes.{draft}
use Rattle.ext_draft.specs.Limits.{IsName, IsRightExtension, IsRightStep, KeepsLimits}
use Rattle.ext_draft.specs.Names.{begins_with_letter, is_keyword, is_name, is_name_part}
use Rattle.ext_draft.specs.Paths.{nth, inside}
use Rattle.ext_draft.specs.declared.draft.Draft.{Draft}
use Rattle.ext_draft.specs.declared.draft.DraftExtension.{DraftExtension}
use Rattle.ext_draft.specs.declared.draft.DraftStep.{DraftStep}
use Rattle.ext_draft.specs.declared.fault.DraftFault.{DraftFault}
use Rattle.ext_parser.specs.Declarations.{keys_on, step_of, steps_of}
use Rattle.ext_parser.specs.ProjectOfTheBytes.{project_of, project_of_draft, project}
use Rattle.ext_parser.specs.SecondWalk.{all_known, extension_right, extensions_right, file_right, item_names, items_of, known_of, names_with, nothing_before, right, step_right}
use Rattle.ext_parser.specs.declared.known.Known.{Known}
use Rattle.ext_parser.specs.declared.project.Project.{Project}
use Rattle.ext_parser.specs.declared.second_walk.Before.{Before}
use Rattle.ext_parser.specs.declared.texts.Texts.{Texts}
use Rattle.ext_parser.proofs.Apart.{fresh-not, row-apart}
use Rattle.project_fit.proofs.Apart.{and-parts, and-true}
use Rattle.ext_parser.proofs.Numbers.{both, extension-right, kept-checked}
use Rattle.build_history.specs.Jobs.{no_decl}
use Rattle.run_laws.specs.Named.{IsNamed, is_plain}
use Rattle.project_job.specs.JobOf.{job_of}
use Rattle.project_job.proofs.Once.{AllLack, Lacks, Once, all_lack_push, apart_once, lacks_append, lacks_fresh, once_append, once_at}

-- a step's name: its extension's and its own
abbrev pub full : StepDecl → List ℕ
full d = d.ext ++ codes "." ++ d.name

-- the characters of a name
abbrev pub HasParts : List ℕ → Type 0
HasParts text = list_all is_name_part text ≡ true

name_parts : (text : List ℕ) → IsName text → HasParts text
unfolding is_name
name_parts text is =
    let named = begins_with_letter text && list_all is_name_part text in
    let whole = and-parts (named && nat_le (length text) 64) (not (is_keyword text)) is in
    let short = and-parts named (nat_le (length text) 64) whole.0 in
    (and-parts (begins_with_letter text) (list_all is_name_part text) short.0).1

plain_part : (c : ℕ) → is_name_part c ≡ true → not (c == 32 || c == 10) ≡ true
plain_part c is = elim (eqb_tells c 32) [
  | inl blank ↦ absurd (let e : is_name_part 32 ≡ true = subst (λ (c : ℕ). is_name_part c ≡ true) blank.1 is in cc)
  | inr no_blank ↦ elim (eqb_tells c 10) [
    | inl feed ↦ absurd (let e : is_name_part 10 ≡ true = subst (λ (c : ℕ). is_name_part c ≡ true) feed.1 is in cc)
    | inr no_feed ↦ rw (no_blank.0, no_feed.0) refl
  ]
]

plain_text : (text : List ℕ) → HasParts text → is_plain text ≡ true
plain_text [] is = refl
plain_text (c ∷ cs) is =
    let parts = and-parts (is_name_part c) (list_all is_name_part cs) is in
    and-true _ _ (plain_part c parts.0) (plain_text cs parts.1)

plain_append : (a b : List ℕ) → is_plain a ≡ true → is_plain b ≡ true → is_plain (a ++ b) ≡ true
plain_append [] b first later = later
plain_append (c ∷ a) b first later =
    let parts = and-parts (not (c == 32 || c == 10)) (is_plain a) first in
    and-true _ _ parts.0 (plain_append a b parts.1 later)

plain_full : (ext name : List ℕ) → HasParts ext → HasParts name → is_plain (ext ++ codes "." ++ name) ≡ true
plain_full ext name first later =
    subst (λ (t : List ℕ). is_plain t ≡ true) (sym (append_assoc ext (codes ".") name)) (plain_append ext (codes "." ++ name) (plain_text ext first) (plain_text name later))

-- a name has no `.`
no_dot : (c : ℕ) → is_name_part c ≡ true → c ≡ 46 → ⊥
no_dot c is dot = let e : is_name_part 46 ≡ true = subst (λ (c : ℕ). is_name_part c ≡ true) dot is in cc

same_ext : (a c b d : List ℕ) → HasParts a → HasParts c → a ++ 46 ∷ b ≡ c ++ 46 ∷ d → a ≡ c
same_ext [] [] b d first later same = refl
same_ext [] (x ∷ c) b d first later same =
    let e : 46 ≡ x = cc in
    absurd (no_dot x (and-parts (is_name_part x) (list_all is_name_part c) later).0 (sym e))
same_ext (x ∷ a) [] b d first later same =
    let e : x ≡ 46 = cc in
    absurd (no_dot x (and-parts (is_name_part x) (list_all is_name_part a) first).0 e)
same_ext (x ∷ a) (y ∷ c) b d first later same =
    let e : x ≡ y = cc in
    let rest : a ++ 46 ∷ b ≡ c ++ 46 ∷ d = cc in
    let tail : a ≡ c = same_ext a c b d (and-parts (is_name_part x) (list_all is_name_part a) first).1 (and-parts (is_name_part y) (list_all is_name_part c) later).1 rest in
    cc (e, tail)

same_name : (ext a b : List ℕ) → ext ++ a ≡ ext ++ b → a ≡ b
same_name [] a b same = same
same_name (c ∷ ext) a b same = same_name ext a b (cc)

-- a step's name is its extension's, the dot and its own
dotted : (ext other a b : List ℕ) → ext ++ codes "." ++ a ≡ other ++ codes "." ++ b → ext ++ (codes "." ++ a) ≡ other ++ (codes "." ++ b)
dotted ext other a b same = sym (append_assoc ext (codes ".") a) ∙ same ∙ append_assoc other (codes ".") b

dot_name : (a b : List ℕ) → codes "." ++ a ≡ codes "." ++ b → a ≡ b
dot_name a b same = cc

module _ (items on : List (List ℕ)) where
  -- the steps of one extension
  own_lacks : (ext name : List ℕ) (steps : List DraftStep) → Lacks (map (λ (s : DraftStep). s.name) steps) name
      → Lacks (map full (map (step_of items on ext) steps)) (ext ++ codes "." ++ name)
  own_lacks ext name [] all = tt
  own_lacks ext name (s ∷ steps) all = (
    λ same. all.0 (dot_name name s.name (same_name ext (codes "." ++ name) (codes "." ++ s.name) (dotted ext ext name s.name same))),
    own_lacks ext name steps all.1,
  )

  own_once : (ext : List ℕ) (steps : List DraftStep) → Once (map (λ (s : DraftStep). s.name) steps) → Once (map full (map (step_of items on ext) steps))
  own_once ext [] all = tt
  own_once ext (s ∷ steps) all = (own_lacks ext s.name steps all.0, own_once ext steps all.1)

  -- a step of an extension of another name
  other_lacks : (ext name other : List ℕ) (steps : List DraftStep) → HasParts ext → HasParts other → (ext ≡ other → ⊥)
      → Lacks (map full (map (step_of items on other) steps)) (ext ++ codes "." ++ name)
  other_lacks ext name other [] first later apart = tt
  other_lacks ext name other (s ∷ steps) first later apart = (
    λ same. apart (same_ext ext other name s.name first later (dotted ext other name s.name same)),
    other_lacks ext name other steps first later apart,
  )

  others_lack : (ext name : List ℕ) (es : List DraftExtension) → HasParts ext → All IsRightExtension es → Lacks (map (λ (e : DraftExtension). e.name) es) ext
      → Lacks (map full (flat_map (steps_of items on) es)) (ext ++ codes "." ++ name)
  others_lack ext name [] first each all = tt
  others_lack ext name (e ∷ es) first each all =
      let head = All-head IsRightExtension e es each in
      let tail = All-tail IsRightExtension e es each in
      subst (λ (xs : List (List ℕ)). Lacks xs (ext ++ codes "." ++ name)) (sym (map-append full (steps_of items on e) (flat_map (steps_of items on) es)))
      (lacks_append (map full (steps_of items on e)) (map full (flat_map (steps_of items on) es)) (ext ++ codes "." ++ name)
      (other_lacks ext name e.name e.steps first (name_parts e.name head.name) all.0) (others_lack ext name es first tail all.1))

  own_apart : (ext : List ℕ) (steps : List DraftStep) (es : List DraftExtension) → HasParts ext → All IsRightExtension es → Lacks (map (λ (e : DraftExtension). e.name) es) ext
      → AllLack (map full (flat_map (steps_of items on) es)) (map full (map (step_of items on ext) steps))
  own_apart ext [] es first each all = tt
  own_apart ext (s ∷ steps) es first each all = (others_lack ext s.name es first each all, own_apart ext steps es first each all)

  names_apart : (known : Known) (n : ℕ) (before : Before) (es : List DraftExtension) → extensions_right known n before es ≡ right
      → AllLack before.extensions (map (λ (e : DraftExtension). e.name) es)
  names_apart known n before [] is = tt
  names_apart known n before (e ∷ es) is =
      let prefix = inside (nth (codes "extensions") n) in
      let parts = both (extension_right known prefix before e) (extensions_right known (suc n) (names_with before e) es) is in
      let rows = extension-right known prefix before e parts.0 in (
        lacks_fresh before.extensions e.name (fresh-not (prefix ++ codes "name") before.extensions e.name rows.name),
        (all_lack_push before.extensions e.name (map (λ (e : DraftExtension). e.name) es) (names_apart known (suc n) (names_with before e) es parts.1)).0,
      )

  steps_once : (known : Known) (n : ℕ) (before : Before) (es : List DraftExtension) → extensions_right known n before es ≡ right → All IsRightExtension es
      → Once (map full (flat_map (steps_of items on) es))
  steps_once known n before [] is each = tt
  steps_once known n before (e ∷ es) is each =
      let prefix = inside (nth (codes "extensions") n) in
      let parts = both (extension_right known prefix before e) (extensions_right known (suc n) (names_with before e) es) is in
      let rows = extension-right known prefix before e parts.0 in
      let head = All-head IsRightExtension e es each in
      let tail = All-tail IsRightExtension e es each in
      let own = (apart_once [] (map (λ (s : DraftStep). s.name) e.steps) (row-apart (λ (s : DraftStep). s.name) (step_right known) (prefix ++ codes "steps") 0 [] e.steps rows.steps)).0 in
      let apart = (all_lack_push before.extensions e.name (map (λ (e : DraftExtension). e.name) es) (names_apart known (suc n) (names_with before e) es parts.1)).1 in
      subst Once (sym (map-append full (steps_of items on e) (flat_map (steps_of items on) es)))
      (once_append (map full (steps_of items on e)) (map full (flat_map (steps_of items on) es)) (own_once e.name e.steps own) (steps_once known (suc n) (names_with before e) es parts.1 tail)
      (own_apart e.name e.steps es (name_parts e.name head.name) tail apart))

-- each of the steps has a plain name
abbrev pub ArePlain : List StepDecl → Type 0
ArePlain [] = Unit {0}
ArePlain (d ∷ ds) = (is_plain (full d) ≡ true) × ArePlain ds

plain_at : (ds : List StepDecl) (k : ℕ) → k < length ds → ArePlain ds → is_plain (full (slice_index_or ds k no_decl)) ≡ true
plain_at [] k within all = absurd (omega (arith, within))
plain_at (d ∷ ds) zero within all = all.0
plain_at (d ∷ ds) (suc k) within all = plain_at ds k (omega (arith, within)) all.1

are_plain_append : (ds es : List StepDecl) → ArePlain ds → ArePlain es → ArePlain (ds ++ es)
are_plain_append [] es first later = later
are_plain_append (d ∷ ds) es first later = (first.0, are_plain_append ds es first.1 later)

module _ (items on : List (List ℕ)) where
  own_plain : (ext : List ℕ) (steps : List DraftStep) → HasParts ext → All IsRightStep steps → ArePlain (map (step_of items on ext) steps)
  own_plain ext [] is each = tt
  own_plain ext (s ∷ steps) is each = (
    plain_full ext s.name is (name_parts s.name (All-head IsRightStep s steps each).name),
    own_plain ext steps is (All-tail IsRightStep s steps each),
  )

  all_plain : (es : List DraftExtension) → All IsRightExtension es → ArePlain (flat_map (steps_of items on) es)
  all_plain [] each = tt
  all_plain (e ∷ es) each =
      let head = All-head IsRightExtension e es each in
      are_plain_append (steps_of items on e) (flat_map (steps_of items on) es) (own_plain e.name e.steps (name_parts e.name head.name) head.steps)
      (all_plain es (All-tail IsRightExtension e es each))

abbrev pub HasNames : Project → Type 0
HasNames p = IsNamed (job_of p)

named_draft : (d : Draft) (t : Texts) → KeepsLimits d → file_right d ≡ right → HasNames (project_of d t)
named_draft d t keeps is =
    let known = known_of d in
    let items = item_names (items_of d.extensions) in
    let on = keys_on d.config in
    let parts = both (extensions_right known 0 nothing_before d.extensions) (all_known known.items (codes "finals") 0 [] d.finals) is in
    let once = steps_once items on known 0 nothing_before d.extensions parts.0 keeps.each in
    record {
      plain = λ s within. plain_at (flat_map (steps_of items on) d.extensions) s within (all_plain items on d.extensions keeps.each);
      apart = λ s t first second same. once_at full no_decl (flat_map (steps_of items on) d.extensions) s t first second once same;
    }

named_drafted : (r : Result Draft DraftFault) → IfOk r KeepsLimits → IfOk (project_of_draft r) HasNames
named_drafted (Ok d) keeps = kept-checked HasNames d (file_right d) refl (λ is t. named_draft d t keeps is)
named_drafted (Err fault) keeps = tt

pub named : (bytes : List ℕ) → IfOk (draft bytes) KeepsLimits → IfOk (project bytes) HasNames
unfolding project
named bytes keeps = named_drafted (draft bytes) keeps
