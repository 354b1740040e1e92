use Rattle.std.proofs.Common.{◌≡◌, ℕ, ◌+◌, ◌<◌, Bool, true, false, List, [], ◌∷◌, ◌++◌, length, Contains, count_by, get_or, set, arith, sym, ◌∙◌, subst, inl, inr, cond, get_or-set_same, get_or-set_other}
use Rattle.std.proofs.lemmas.List.{get_or_past, length-set, length_push, get_or_default}
use Rattle.std.proofs.lemmas.List.Sums.{sum_by-set}
use Rattle.std.proofs.lemmas.List.Elements.{Contains-push, Contains-append_left, Contains-push_cases}
use Rattle.std.proofs.lemmas.Bool.{cases_lt, cases_eq}
use Rattle.chain_builder.specs.Marks.{IsMarked, is_clear}

-- what is set is within
pub set_within : (flags : List Bool) (k : ℕ) → get_or flags k false ≡ true → k < length flags
set_within flags k e = elim (cases_lt k (length flags)) [ inl h ↦ h | inr h ↦ let f : get_or flags k false ≡ false = get_or_past flags k false h in absurd (let g : false ≡ true = sym f ∙ e in cc) ]

pub item_within : (items : List ℕ) (flags : List Bool) (k : ℕ) → IsMarked items flags → Contains items k → k < length flags
item_within items flags k m h = set_within flags k (m.flagged k h)

-- one more is marked
pub mark_more : (items : List ℕ) (flags : List Bool) (x : ℕ) → IsMarked items flags → x < length flags → get_or flags x false ≡ false → IsMarked (items ++ x ∷ []) (set flags x true)
mark_more items flags x m within clear = record {
  room =
      let counted : count_by is_clear (set flags x true) + cond (is_clear (get_or flags x false)) 1 0 ≡ count_by is_clear flags + 0 = sum_by-set (λ b. cond (is_clear b) 1 0) flags x true false within in
      let one : count_by is_clear (set flags x true) + 1 ≡ count_by is_clear flags + 0 = subst (λ (b : Bool). count_by is_clear (set flags x true) + cond (is_clear b) 1 0 ≡ count_by is_clear flags + 0) clear counted in
      omega (arith, length-set flags x true, length_push items x, m.room);
  listed = λ k e. elim (cases_eq k x) [
    | inl h ↦ subst (λ (y : ℕ). Contains (items ++ x ∷ []) y) (sym h) (Contains-push items x)
    | inr h ↦ Contains-append_left items (x ∷ []) k (m.listed k (sym (get_or-set_other flags x k true false h) ∙ e))
  ];
  flagged = λ k h. elim (Contains-push_cases items x k h) [
    | inl old ↦ elim (cases_eq k x) [
      | inl e ↦ subst (λ (y : ℕ). get_or (set flags x true) y false ≡ true) (sym e) (get_or-set_same flags x true false within)
      | inr e ↦ get_or-set_other flags x k true false e ∙ m.flagged k old
    ]
    | inr e ↦ subst (λ (y : ℕ). get_or (set flags x true) y false ≡ true) e (get_or-set_same flags x true false within)
  ];
}

pub clear_at : (flags : List Bool) (x : ℕ) (b : Bool) → b ≡ get_or flags x b → b ≡ false → get_or flags x false ≡ false
clear_at flags x b read clear = subst (λ (y : Bool). get_or flags x y ≡ y) clear (sym read)

pub set_at : (flags : List Bool) (x : ℕ) (b : Bool) → x < length flags → b ≡ get_or flags x b → b ≡ true → get_or flags x false ≡ true
set_at flags x b within read set' = get_or_default flags x false b within ∙ (sym read ∙ set')
