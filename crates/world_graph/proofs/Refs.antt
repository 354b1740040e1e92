-- References among slots.
use Rattle.std.proofs.Common.{◌≡◌, ℕ, Bool, true, false, List, [], ◌∷◌, ◌++◌, map, nat_lt, if◌then◌else◌, refl, sym, ap, ◌∙◌, append_assoc}
use Rattle.startup_rules.specs.declared.slot.Slot.{Slot}
use Rattle.startup_rules.specs.declared.slot.Slot.TheVariants.{Null, Bool as Truth, Long, Str, Obj}
use Rattle.startup_rules.specs.Visits.{refs_of}
use Rattle.startup_rules.specs.Views.{static_refs}

if-append : (b : Bool) (x : ℕ) (l m : List ℕ) → (if b then x ∷ (l ++ m) else l ++ m) ≡ (if b then x ∷ l else l) ++ m
if-append true x l m = refl
if-append false x l m = refl

pub refs_append : (n : ℕ) (ss ts : List Slot) → refs_of n (ss ++ ts) ≡ refs_of n ss ++ refs_of n ts
refs_append n [] ts = refl
refs_append n (Null ∷ ss) ts = refs_append n ss ts
refs_append n (Truth b ∷ ss) ts = refs_append n ss ts
refs_append n (Long k ∷ ss) ts = refs_append n ss ts
refs_append n (Str t ∷ ss) ts = refs_append n ss ts
refs_append n (Obj x ∷ ss) ts = ap (λ (l : List ℕ). if nat_lt x n then x ∷ l else l) (refs_append n ss ts) ∙ if-append (nat_lt x n) x (refs_of n ss) (refs_of n ts)

pub refs_more : (n : ℕ) (ss : List Slot) (s : Slot) → refs_of n (ss ++ s ∷ []) ≡ refs_of n ss ++ refs_of n (s ∷ [])
refs_more n ss s = refs_append n ss (s ∷ [])

pub refs_next : (n : ℕ) (s : Slot) (ss : List Slot) (old mid : List ℕ) → mid ≡ old ++ refs_of n (s ∷ []) → mid ++ refs_of n ss ≡ old ++ refs_of n (s ∷ ss)
refs_next n s ss old mid e = ap (λ (l : List ℕ). l ++ refs_of n ss) e ∙ (append_assoc old (refs_of n (s ∷ [])) (refs_of n ss) ∙ ap (λ (l : List ℕ). old ++ l) (sym (refs_append n (s ∷ []) ss)))

pub statics_next : (n : ℕ) (r : List Slot) (rs : List (List Slot)) (old mid : List ℕ) → mid ≡ old ++ refs_of n r → mid ++ static_refs n rs ≡ old ++ static_refs n (r ∷ rs)
statics_next n r rs old mid e = ap (λ (l : List ℕ). l ++ static_refs n rs) e ∙ append_assoc old (refs_of n r) (static_refs n rs)

pub pairs_next : (n : ℕ) (p : List ℕ × Slot) (ps : List (List ℕ × Slot)) (old mid : List ℕ) → mid ≡ old ++ refs_of n (p.1 ∷ []) →
    mid ++ refs_of n (map (λ (p : List ℕ × Slot). p.1) ps) ≡ old ++ refs_of n (map (λ (p : List ℕ × Slot). p.1) (p ∷ ps))
pairs_next n p ps old mid e = refs_next n p.1 (map (λ (p : List ℕ × Slot). p.1) ps) old mid e
