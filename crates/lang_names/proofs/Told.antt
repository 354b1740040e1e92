-- The fields of `new`, with the names of their values.
use Rattle.std.proofs.Common.{◌≡◌, ℕ, ◌+◌, List, [], ◌∷◌, ◌++◌, Err, map, take, drop, refl, ap, sym, ◌∙◌}
use Rattle.std.proofs.Common.{◌<◌, length, get_or}
use Rattle.std.proofs.lemmas.List.{at_drop_more}
use Rattle.std.proofs.lemmas.Grind.{take_at_read}
use Rattle.std.specs.Prelude.{slice_get}
use Rattle.item_types.specs.Named.{fields_of}
use Rattle.syntax_tree.specs.declared.tree.Expr.{Expr}
use Rattle.syntax_tree.specs.declared.tree.Expr.TheVariants as e
use Rattle.syntax_tree.specs.declared.tree.Expr.TheVariants.{rolls-New}
use Rattle.syntax_tree.specs.declared.tree.Expr.TheFolds.{fold-roll-Expr}
use Rattle.syntax_tree.specs.declared.tree.Expr.TheOpen as one
use Rattle.lang_names.specs.declared.wrong.Wrong.{Wrong}
use Rattle.lang_names.specs.Checked.{Checked, right, and_also}
use Rattle.syntax_tree.specs.Known.{Known}
use Rattle.lang_names.specs.Exprs.{Told, told_of, told_step, name_right, fields_right, new_right, bean_right, with_told, first_names, left_of}

-- their names are those of the fields
pub names_told : (k : Known) (fs : List (List ℕ × Expr)) → map (λ (f : List ℕ × Told). f.0) (with_told k fs) ≡ first_names fs
names_told k [] = refl
names_told k (f ∷ fs) = ap (λ w. f.0 ∷ w) (names_told k fs)

names_append : (xs ys : List (List ℕ × Expr)) → first_names (xs ++ ys) ≡ first_names xs ++ first_names ys
names_append [] ys = refl
names_append (x ∷ xs) ys = ap (λ w. x.0 ∷ w) (names_append xs ys)

pub bean_step : (k : Known) (at bean : ℕ) (fs : List (List ℕ × Expr)) (scope : List (List ℕ))
    → bean_right k at bean (with_told k fs) scope ≡ and_also (new_right k at bean (first_names fs)) (left_of k (fields_of (slice_get k.names.beans bean)) fs scope 0)
bean_step k at bean fs scope = ap (λ (ns : List (List ℕ)). and_also (new_right k at bean ns) (left_of k (fields_of (slice_get k.names.beans bean)) fs scope 0)) (names_told k fs)

-- a test that answers a wrong name
pub bean_err : (k : Known) (at bean : ℕ) (fs : List (List ℕ × Expr)) (scope : List (List ℕ)) (w : Wrong) → new_right k at bean (first_names fs) ≡ Err w → bean_right k at bean (with_told k fs) scope ≡ Err w
bean_err k at bean fs scope w p = bean_step k at bean fs scope ∙ ap (λ (o : Checked). and_also o (left_of k (fields_of (slice_get k.names.beans bean)) fs scope 0)) p

pub bean_ok : (k : Known) (at bean : ℕ) (fs : List (List ℕ × Expr)) (scope : List (List ℕ)) → new_right k at bean (first_names fs) ≡ right → bean_right k at bean (with_told k fs) scope ≡ left_of k (fields_of (slice_get k.names.beans bean)) fs scope 0
bean_ok k at bean fs scope p = bean_step k at bean fs scope ∙ ap (λ (o : Checked). and_also o (left_of k (fields_of (slice_get k.names.beans bean)) fs scope 0)) p

-- one field, and those behind it
pub fields_step : (k : Known) (declared : List (List ℕ)) (fs : List (List ℕ × Expr)) (scope : List (List ℕ)) (i : ℕ) (x : List ℕ × Expr) → drop i fs ≡ x ∷ drop (i + 1) fs → take (i + 1) fs ≡ take i fs ++ x ∷ []
    → left_of k declared fs scope i ≡ and_also (and_also (name_right declared (first_names (take i fs)) x.0 (told_of k x.1).first) ((told_of k x.1).check scope)) (left_of k declared fs scope (i + 1))
fields_step k declared fs scope i x p q =
    ap (λ (v : List (List ℕ × Expr)). fields_right declared (first_names (take i fs)) (with_told k v) scope) p
    ∙ ap (λ (v : List (List ℕ)). and_also (and_also (name_right declared (first_names (take i fs)) x.0 (told_of k x.1).first) ((told_of k x.1).check scope)) (fields_right declared v (with_told k (drop (i + 1) fs)) scope))
    (sym (ap first_names q ∙ names_append (take i fs) (x ∷ [])))

-- a turn of the loop over the fields, of which so many are done
pub fields_turn : (k : Known) (declared : List (List ℕ)) (fs ws : List (List ℕ × Expr)) (scope : List (List ℕ)) (i b : ℕ) (x : List ℕ × Expr) (r : Checked)
    → (left_of k declared fs scope 0 ≡ left_of k declared fs scope i) × (b ≡ i) → i < length fs → x ≡ get_or fs i x → ws ≡ fs
    → r ≡ and_also (name_right declared (first_names (take b ws)) x.0 (told_of k x.1).first) ((told_of k x.1).check scope)
    → left_of k declared fs scope 0 ≡ and_also r (left_of k declared fs scope (i + 1))
fields_turn k declared fs ws scope i b x r inv h e same checked =
    inv.0
    ∙ fields_step k declared fs scope i x (at_drop_more (λ (v : List (List ℕ × Expr)). v) fs i x h ∙ ap (λ (y : List ℕ × Expr). y ∷ drop (i + 1) fs) (sym e)) ((take_at_read fs i x h).1 ∙ ap (λ (y : List ℕ × Expr). take i fs ++ y ∷ []) (sym e))
    ∙ ap (λ (j : ℕ). and_also (and_also (name_right declared (first_names (take j fs)) x.0 (told_of k x.1).first) ((told_of k x.1).check scope)) (left_of k declared fs scope (i + 1))) (sym inv.1)
    ∙ ap (λ (v : List (List ℕ × Expr)). and_also (and_also (name_right declared (first_names (take b v)) x.0 (told_of k x.1).first) ((told_of k x.1).check scope)) (left_of k declared fs scope (i + 1))) (sym same)
    ∙ ap (λ (o : Checked). and_also o (left_of k declared fs scope (i + 1))) (sym checked)

pub new_told : (k : Known) (at bean : ℕ) (fs : List (List ℕ × Expr)) → told_of k (e.New at bean fs) ≡ told_step k (one.New at bean (with_told k fs))
new_told k at bean fs = ap (told_of k) (sym (rolls-New at bean fs)) ∙ fold-roll-Expr Told (told_step k) (one.New at bean fs)

pub new_checks : (k : Known) (at bean : ℕ) (fs gs : List (List ℕ × Expr)) (x : Expr) (scope : List (List ℕ)) (r : Checked)
    → x ≡ e.New at bean fs → gs ≡ fs → r ≡ bean_right k at bean (with_told k gs) scope → r ≡ (told_of k x).check scope
new_checks k at bean fs gs x scope r p q h =
    h ∙ ap (λ (v : List (List ℕ × Expr)). bean_right k at bean (with_told k v) scope) q
    ∙ ap (λ (v : Told). v.check scope) (sym (new_told k at bean fs))
    ∙ ap (λ (v : Expr). (told_of k v).check scope) (sym p)
