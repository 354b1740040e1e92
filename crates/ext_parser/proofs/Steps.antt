-- The full names of a project's steps stand there once.
use Rattle.std.proofs.Common.{◌≡◌, ◌∙◌, ap, sym, refl, subst, append-nil, ℕ, suc, Bool, true, false, not, ◌||◌, List, [], ◌∷◌, ◌++◌, map}
use Rattle.std.specs.List.{All, list_any, flat_map}
use Rattle.std.specs.Prelude.{codes}
use Rattle.std.specs.Str.{bytes_eq}
use Rattle.std.proofs.lemmas.List.{map-append}
use Rattle.std.proofs.lemmas.List.Elements.{All-head, All-tail}
use Rattle.std.proofs.lemmas.Slice.Eq.{bytes_eq-Decides}
use Rattle.ext_draft.specs.Limits.{IsRightExtension}
use Rattle.ext_draft.specs.Paths.{nth, inside}
use Rattle.ext_draft.specs.declared.draft.DraftExtension.{DraftExtension}
use Rattle.ext_draft.specs.declared.draft.DraftStep.{DraftStep}
use Rattle.name_index.specs.Place.{has}
use Rattle.project_fit.specs.Fits.{none_twice, full_name}
use Rattle.project_fit.proofs.Apart.{apart-append}
use Rattle.project_fit.proofs.FullNames.{has-any, full, full-apart, is_plain, name-plain, AreOf, none, more, others-apart}
use Rattle.ext_parser.specs.Declarations.{step_of, steps_of}
use Rattle.ext_parser.specs.SecondWalk.{right, step_right, extension_right, extensions_right, names_with}
use Rattle.ext_parser.specs.declared.known.Known.{Known}
use Rattle.ext_parser.specs.declared.second_walk.Before.{Before}
use Rattle.ext_parser.proofs.Apart.{fresh-not, row-apart}
use Rattle.ext_parser.proofs.Numbers.{both, extension-right}

or-left : (a b : Bool) → a ≡ true → (a || b) ≡ true
or-left true b is = refl
or-left false b is = cc

or-right : (a b : Bool) → b ≡ true → (a || b) ≡ true
or-right true b is = refl
or-right false b is = is

or-by : (a b c : Bool) → (b ≡ true → c ≡ true) → (a || b) ≡ true → (a || c) ≡ true
or-by true b c later is = refl
or-by false b c later is = later is

any-more : (test : List ℕ → Bool) (xs ys : List (List ℕ)) → list_any test xs ≡ true → list_any test (xs ++ ys) ≡ true
any-more test [] ys is = cc
any-more test (x ∷ xs) ys is = or-by (test x) (list_any test xs) (list_any test (xs ++ ys)) (λ later. any-more test xs ys later) is

any-last : (test : List ℕ → Bool) (xs : List (List ℕ)) (y : List ℕ) → test y ≡ true → list_any test (xs ++ y ∷ []) ≡ true
any-last test [] y is = or-left (test y) false is
any-last test (x ∷ xs) y is = or-right (test x) (list_any test (xs ++ y ∷ [])) (any-last test xs y is)

has-more : (exts : List (List ℕ)) (z y : List ℕ) → has exts y ≡ true → has (exts ++ z ∷ []) y ≡ true
has-more exts z y is = has-any (exts ++ z ∷ []) y ∙ any-more (bytes_eq y) exts (z ∷ []) (sym (has-any exts y) ∙ is)

has-last : (exts : List (List ℕ)) (y : List ℕ) → has (exts ++ y ∷ []) y ≡ true
has-last exts y = has-any (exts ++ y ∷ []) y ∙ any-last (bytes_eq y) exts y ((bytes_eq-Decides y y).1 refl)

-- full names of extensions stay such when one more extension comes
of-more : (exts others : List (List ℕ)) (z : List ℕ) → AreOf exts others → AreOf (exts ++ z ∷ []) others
of-more exts _ z none = none
of-more exts _ z (more y w others plain present rest) = more y w others plain (has-more exts z y present) (of-more exts others z rest)

of-both : (exts xs ys : List (List ℕ)) → AreOf exts xs → AreOf exts ys → AreOf exts (xs ++ ys)
of-both exts _ ys none later = later
of-both exts _ ys (more y w xs plain present rest) later = more y w (xs ++ ys) plain present (of-both exts xs ys rest later)

of-one : (exts : List (List ℕ)) (ext : List ℕ) (names : List (List ℕ)) → is_plain ext ≡ true → has exts ext ≡ true → AreOf exts (map (full ext) names)
of-one exts ext [] plain present = none
of-one exts ext (x ∷ names) plain present = more ext x (map (full ext) names) plain present (of-one exts ext names plain present)

full-names : (items on : List (List ℕ)) (ext : List ℕ) (steps : List DraftStep) → map full_name (map (step_of items on ext) steps) ≡ map (full ext) (map (λ (s : DraftStep). s.name) steps)
full-names items on ext [] = refl
full-names items on ext (s ∷ steps) = ap (λ (rest : List (List ℕ)). full ext s.name ∷ rest) (full-names items on ext steps)

absent-of : (b : Bool) → not b ≡ true → b ≡ false
absent-of false is = refl
absent-of true is = cc

-- extensions whose names and whose rows of steps are right, behind full names of others
pub apart-steps : (known : Known) (on : List (List ℕ)) (n : ℕ) (before : Before) (others : List (List ℕ)) (es : List DraftExtension)
    → All IsRightExtension es → extensions_right known n before es ≡ right → AreOf before.extensions others
    → none_twice others (map full_name (flat_map (steps_of known.items on) es)) ≡ true
apart-steps known on n before others [] all is of = refl
apart-steps known on n before others (e ∷ es) all is of =
    let prefix = inside (nth (codes "extensions") n) in
    let names : List (List ℕ) = map (λ (s : DraftStep). s.name) e.steps in
    let parts = both (extension_right known prefix before e) (extensions_right known (suc n) (names_with before e) es) is in
    let rows = extension-right known prefix before e parts.0 in
    let plain : is_plain e.name ≡ true = name-plain e.name (All-head IsRightExtension e es all).name in
    let absent : has before.extensions e.name ≡ false = absent-of (has before.extensions e.name) (fresh-not (prefix ++ codes "name") before.extensions e.name rows.name) in
    let once : none_twice [] names ≡ true = row-apart (λ (s : DraftStep). s.name) (step_right known) (prefix ++ codes "steps") 0 [] e.steps rows.steps in
    let here : none_twice others (map (full e.name) names) ≡ true
    = subst (λ (v : List (List ℕ)). none_twice v (map (full e.name) names) ≡ true) (append-nil others)
    (full-apart e.name others [] names (λ x. others-apart before.extensions others e.name x of plain absent) once) in
    let rest : none_twice (others ++ map (full e.name) names) (map full_name (flat_map (steps_of known.items on) es)) ≡ true
    = apart-steps known on (suc n) (names_with before e) (others ++ map (full e.name) names) es (All-tail IsRightExtension e es all) parts.1
    (of-both (before.extensions ++ e.name ∷ []) others (map (full e.name) names) (of-more before.extensions others e.name of)
    (of-one (before.extensions ++ e.name ∷ []) e.name names plain (has-last before.extensions e.name))) in
    let same : map full_name (flat_map (steps_of known.items on) (e ∷ es)) ≡ map (full e.name) names ++ map full_name (flat_map (steps_of known.items on) es)
    = map-append full_name (steps_of known.items on e) (flat_map (steps_of known.items on) es)
    ∙ ap (λ (v : List (List ℕ)). v ++ map full_name (flat_map (steps_of known.items on) es)) (full-names known.items on e.name e.steps) in
    subst (λ (v : List (List ℕ)). none_twice others v ≡ true) (sym same)
    (apart-append others (map (full e.name) names) (map full_name (flat_map (steps_of known.items on) es)) here rest)
