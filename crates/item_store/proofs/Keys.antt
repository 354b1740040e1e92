-- The values of each item keep their keys.
use Rattle.std.proofs.Common.{◌≡◌, ℕ, zero, suc, ◌-◌, ◌<◌, ◌≤◌, List, [], ◌∷◌, ◌++◌, length, get_or, set, replicate, refl, sym, ◌∙◌, subst, arith}
use Rattle.std.specs.List.{All}
use Rattle.std.proofs.lemmas.List.Elements.{All-nil, All-push}
use Rattle.item_types.specs.declared.decl.Names.{Names}
use Rattle.item_types.specs.declared.value.Value.{Value}
use Rattle.value_order.specs.Found.{kind_of, HasKey}
use Rattle.item_store.specs.Kept.{Held, Kept, nothing, spare_of, HaveKeys}

pub held_none : (n i : ℕ) → get_or (replicate n nothing) i nothing ≡ nothing
held_none zero i = refl
held_none (suc n) zero = refl
held_none (suc n) (suc i) = held_none n i

pub HaveKeys-none : (names : Names) (n : ℕ) → HaveKeys names (replicate n nothing)
HaveKeys-none names n item =
    let P : Held → Type 0 = λ h. All (HasKey names (kind_of names item)) h.values in
    subst P (sym (held_none n item)) (All-nil (HasKey names (kind_of names item)))

-- what holds of each place, and of the new element at its place, holds after the write
each_set : (P : ℕ → Held → Type 0) (held : List Held) (item : ℕ) (h : Held) → ((i : ℕ) → P i (get_or held i nothing)) → P item h → (i : ℕ) → P i (get_or (set held item h) i nothing)
each_set P [] item h all p i = all i
each_set P (x ∷ held) zero h all p zero = p
each_set P (x ∷ held) zero h all p (suc i) = all (suc i)
each_set P (x ∷ held) (suc item) h all p zero = all zero
each_set P (x ∷ held) (suc item) h all p (suc i) = each_set (λ j. P (suc j)) held item h (λ j. all (suc j)) p i

pub HaveKeys-set : (names : Names) (held : List Held) (item : ℕ) (h : Held) → HaveKeys names held → All (HasKey names (kind_of names item)) h.values → HaveKeys names (set held item h)
HaveKeys-set names held item h all p = each_set (λ i g. All (HasKey names (kind_of names i)) g.values) held item h all p

has_place : (held : List Held) (item : ℕ) → 1 ≤ (get_or held item nothing).spare → item < length held
has_place [] item h = absurd (omega arith)
has_place (x ∷ held) zero h = omega arith
has_place (x ∷ held) (suc item) h = let k = has_place held item h in omega arith

same_place : (held : List Held) (item : ℕ) (d e : Held) → item < length held → get_or held item d ≡ get_or held item e
same_place [] item d e h = absurd (omega arith)
same_place (x ∷ held) zero d e h = refl
same_place (x ∷ held) (suc item) d e h = same_place held item d e (omega arith)

-- the store `now` has these fields, h is what it held of the item, and one more value comes in
pub HaveKeys-put : (names : Names) (held : List Held) (now : Kept) (item : ℕ) (h new : Held) (v : Value) →
    record { names = names; held = held } ≡ now → 1 ≤ spare_of now item → HasKey now.names (kind_of now.names item) v → HaveKeys names held →
    h ≡ get_or held item h → new ≡ record { values = h.values ++ v ∷ []; spare = h.spare - 1 } → HaveKeys names (set held item new)
HaveKeys-put names held now item h new v e room key all at is =
    let P : Held → Type 0 = λ g. All (HasKey names (kind_of names item)) g.values in
    let Room : Kept → Type 0 = λ s. 1 ≤ spare_of s item in
    let Key : Kept → Type 0 = λ s. HasKey s.names (kind_of s.names item) v in
    let place = has_place held item (subst Room (sym e) room) in
    let same : h ≡ get_or held item nothing = at ∙ same_place held item h nothing place in
    let old = subst P (sym same) (all item) in
    HaveKeys-set names held item new all (subst P (sym is) (All-push (HasKey names (kind_of names item)) h.values v old (subst Key (sym e) key)))
