-- A value fits where its parts do.
use Rattle.std.proofs.Common.{◌≡◌, ◌≤◌, ◌↔◌, ◌&&◌, ◌∙◌, ℕ, Bool, true, false, IsTrue, List, [], ◌∷◌, length, map, refl, sym, ap, subst, arith, slice_get}
use Rattle.std.specs.List.{All, list_all}
use Rattle.std.proofs.lemmas.List.{length-map}
use Rattle.std.proofs.lemmas.List.Elements.{All-nil, All-cons, All-head, All-tail}
use Rattle.std.proofs.lemmas.List.Folds.{list_all-map}
use Rattle.item_types.specs.Fitting.{ValueFits}
use Rattle.item_types.specs.Measure.{greatest, longest, longest_step}
use Rattle.item_types.specs.Modified.{modified_len}
use Rattle.item_types.specs.Named.{fits, fits_step, has_fields}
use Rattle.item_types.specs.declared.decl.Names.{Names}
use Rattle.item_types.specs.declared.value.NodeId.{NodeId}
use Rattle.item_types.specs.declared.value.Value.{Value, fold-roll-Value}
use Rattle.item_types.specs.declared.value.Value.TheOpen as one
use Rattle.item_types.specs.declared.value.Value.TheVariants as value

and_both : (a b : Bool) → (a && b) ≡ true → (a ≡ true) × (b ≡ true)
and_both true b e = (refl, e)
and_both false b e = cc

both_and : (a b : Bool) → a ≡ true → b ≡ true → (a && b) ≡ true
both_and a b e f = ap (λ c. c && b) e ∙ f

-- no text of several is longer than n where none of each is
pub greatest_le : (f : Value → ℕ) (n : ℕ) (vs : List Value) → All (λ v. f v ≤ n) vs → greatest (map f vs) ≤ n
greatest_le f n [] h = omega arith
greatest_le f n (v ∷ vs) h = omega (arith, All-head (λ w. f w ≤ n) v vs h, greatest_le f n vs (All-tail (λ w. f w ≤ n) v vs h))

pub le_greatest : (f : Value → ℕ) (n : ℕ) (vs : List Value) → greatest (map f vs) ≤ n → All (λ v. f v ≤ n) vs
le_greatest f n [] h = All-nil (λ v. f v ≤ n)
le_greatest f n (v ∷ vs) h = All-cons (λ w. f w ≤ n) v vs (omega (arith, h)) (le_greatest f n vs (omega (arith, h)))

pub longest_Str : (t : List ℕ) → longest (value.Str t) ≡ modified_len t
longest_Str t = ap longest (sym (value.rolls-Str t)) ∙ fold-roll-Value ℕ longest_step (one.Str t)

pub longest_List : (id : NodeId) (parts : List Value) → longest (value.List id parts) ≡ greatest (map longest parts)
longest_List id parts = ap longest (sym (value.rolls-List id parts)) ∙ fold-roll-Value ℕ longest_step (one.List id parts)

pub longest_Bean : (id : NodeId) (bean : ℕ) (parts : List Value) → longest (value.Bean id bean parts) ≡ greatest (map longest parts)
longest_Bean id bean parts = ap longest (sym (value.rolls-Bean id bean parts)) ∙ fold-roll-Value ℕ longest_step (one.Bean id bean parts)

module _ (names : Names) where
  fits_Str : (t : List ℕ) → fits names (value.Str t) ≡ true
  fits_Str t = ap (fits names) (sym (value.rolls-Str t)) ∙ fold-roll-Value Bool (fits_step names) (one.Str t)

  fits_List : (id : NodeId) (parts : List Value) → fits names (value.List id parts) ≡ list_all (fits names) parts
  fits_List id parts = ap (fits names) (sym (value.rolls-List id parts)) ∙ (fold-roll-Value Bool (fits_step names) (one.List id parts) ∙ list_all-map (λ p. p) (fits names) parts)

  fits_parts : (bean : ℕ) (parts : List Value) →
      (has_fields (slice_get names.beans bean) (length (map (fits names) parts)) && list_all (λ p. p) (map (fits names) parts)) ≡ (has_fields (slice_get names.beans bean) (length parts) && list_all (fits names) parts)
  fits_parts bean parts = rw (length-map parts (fits names), list_all-map (λ (p : Bool). p) (fits names) parts) refl

  fits_Bean : (id : NodeId) (bean : ℕ) (parts : List Value) → fits names (value.Bean id bean parts) ≡ (has_fields (slice_get names.beans bean) (length parts) && list_all (fits names) parts)
  fits_Bean id bean parts = ap (fits names) (sym (value.rolls-Bean id bean parts)) ∙ (fold-roll-Value Bool (fits_step names) (one.Bean id bean parts) ∙ fits_parts bean parts)

  -- several values fit where each does
  together : (vs : List Value) → list_all (fits names) vs ≡ true → greatest (map longest vs) ≤ 65535 → All (ValueFits names) vs
  together [] h k = All-nil (ValueFits names)
  together (v ∷ vs) h k =
      let both = and_both (fits names v) (list_all (fits names) vs) h in
      All-cons (ValueFits names) v vs (record { beans_fit = both.0; texts_fit = omega (arith, k) }) (together vs both.1 (omega (arith, k)))

  all_fit : (vs : List Value) → All (ValueFits names) vs → list_all (fits names) vs ≡ true
  all_fit [] h = refl
  all_fit (v ∷ vs) h = both_and (fits names v) (list_all (fits names) vs) (All-head (ValueFits names) v vs h).beans_fit (all_fit vs (All-tail (ValueFits names) v vs h))

  all_short : (vs : List Value) → All (ValueFits names) vs → greatest (map longest vs) ≤ 65535
  all_short [] h = omega arith
  all_short (v ∷ vs) h = omega (arith, (All-head (ValueFits names) v vs h).texts_fit, all_short vs (All-tail (ValueFits names) v vs h))

  pub text_fits : (t : List ℕ) → ValueFits names (value.Str t) ↔ (modified_len t ≤ 65535)
  text_fits t = (λ h. subst (λ n. n ≤ 65535) (longest_Str t) h.texts_fit, λ h. record { beans_fit = fits_Str t; texts_fit = subst (λ n. n ≤ 65535) (sym (longest_Str t)) h })

  pub list_fits : (id : NodeId) (parts : List Value) → ValueFits names (value.List id parts) ↔ All (ValueFits names) parts
  list_fits id parts = (
    λ h. together parts (sym (fits_List id parts) ∙ h.beans_fit) (subst (λ n. n ≤ 65535) (longest_List id parts) h.texts_fit),
    λ h. record { beans_fit = fits_List id parts ∙ all_fit parts h; texts_fit = subst (λ n. n ≤ 65535) (sym (longest_List id parts)) (all_short parts h) },
  )

  bean_parts : (id : NodeId) (bean : ℕ) (parts : List Value) → ValueFits names (value.Bean id bean parts) → IsTrue (has_fields (slice_get names.beans bean) (length parts)) × All (ValueFits names) parts
  bean_parts id bean parts h =
      let both = and_both _ _ (sym (fits_Bean id bean parts) ∙ h.beans_fit) in
      (both.0, together parts both.1 (subst (λ n. n ≤ 65535) (longest_Bean id bean parts) h.texts_fit))

  pub bean_fits : (id : NodeId) (bean : ℕ) (parts : List Value) → ValueFits names (value.Bean id bean parts) ↔ (IsTrue (has_fields (slice_get names.beans bean) (length parts)) × All (ValueFits names) parts)
  bean_fits id bean parts = (
    bean_parts id bean parts,
    λ h. record {
      beans_fit = fits_Bean id bean parts ∙ both_and (has_fields (slice_get names.beans bean) (length parts)) (list_all (fits names) parts) h.0 (all_fit parts h.1);
      texts_fit = subst (λ n. n ≤ 65535) (sym (longest_Bean id bean parts)) (all_short parts h.1);
    },
  )
