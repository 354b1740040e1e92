-- Texts that were right beside those before them stand there once.
use Rattle.std.proofs.Common.{◌≡◌, refl, ℕ, suc, Bool, true, false, not, cond, List, [], ◌∷◌, ◌++◌, map, Err}
use Rattle.std.specs.Prelude.{codes}
use Rattle.ext_draft.specs.Paths.{nth, inside}
use Rattle.project_fit.specs.Fits.{none_twice}
use Rattle.name_index.specs.Place.{has}
use Rattle.ext_parser.specs.SecondWalk.{Checked, right, then, fresh, all_fresh, row}
use Rattle.ext_parser.specs.declared.fault.ProjectFault.TheVariants.{Repeated}
use Rattle.project_fit.proofs.Apart.{and-true}
use Rattle.ext_parser.proofs.Numbers.{both}

fresh-by : (b : Bool) (path : List ℕ) → ◌≡◌ {A = Checked} (cond b (Err (Repeated path)) right) right → not b ≡ true
fresh-by false path is = refl
fresh-by true path is = let no : ◌≡◌ {A = Checked} (Err (Repeated path)) right = is in cc

pub fresh-not : (path : List ℕ) (before : List (List ℕ)) (text : List ℕ) → fresh path before text ≡ right → not (has before text) ≡ true
fresh-not path before text is = fresh-by (has before text) path is

pub fresh-apart : (path : List ℕ) (n : ℕ) (before texts : List (List ℕ)) → all_fresh path n before texts ≡ right → none_twice before texts ≡ true
fresh-apart path n before [] is = refl
fresh-apart path n before (text ∷ texts) is =
    let parts = both (fresh (nth path n) before text) (all_fresh path (suc n) (before ++ text ∷ []) texts) is in
    and-true _ _ (fresh-not (nth path n) before text parts.0) (fresh-apart path (suc n) (before ++ text ∷ []) texts parts.1)

pub row-apart : {A : Type 0} (name : A → List ℕ) (inner : List ℕ → A → Checked) (path : List ℕ) (n : ℕ) (before : List (List ℕ)) (xs : List A)
    → row name inner path n before xs ≡ right → none_twice before (map name xs) ≡ true
row-apart name inner path n before [] is = refl
row-apart name inner path n before (x ∷ xs) is =
    let later : Checked = row name inner path (suc n) (before ++ name x ∷ []) xs in
    let named = both (fresh (inside (nth path n) ++ codes "name") before (name x)) (then (inner (inside (nth path n)) x) (λ _. later)) is in
    let parts = both (inner (inside (nth path n)) x) later named.1 in
    and-true _ _ (fresh-not (inside (nth path n) ++ codes "name") before (name x) named.0) (row-apart name inner path (suc n) (before ++ name x ∷ []) xs parts.1)
