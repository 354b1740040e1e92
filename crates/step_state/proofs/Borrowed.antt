-- The entries that borrowed names show, by their places.
use Rattle.std.proofs.Common.{◌≡◌, ℕ, ◌<◌, List, length, drop, take, get_or, sym, ap, ◌∙◌}
use Rattle.std.proofs.lemmas.List.{length-map, get_or-map, drop-map, take-map}
use Rattle.std.specs.Borrow.{Bor}
use Rattle.step_state.specs.Bound.{bound}

module _ {V : Type 0} where
  abbrev pub shown : Bor (List ℕ) × V → List ℕ × V
  shown e = (e.0.now, e.1)

  pub length_bound : (entries : List (Bor (List ℕ) × V)) → length (bound entries) ≡ length entries
  length_bound entries = length-map entries shown

  pub entry_bound : (entries : List (Bor (List ℕ) × V)) (i : ℕ) (e : Bor (List ℕ) × V) → i < length entries → e ≡ get_or entries i e → shown e ≡ get_or (bound entries) i (shown e)
  entry_bound entries i e h at = ap shown at ∙ sym (get_or-map shown entries i e (shown e) h)

  pub drop_bound : (n : ℕ) (entries : List (Bor (List ℕ) × V)) → drop n (bound entries) ≡ bound (drop n entries)
  drop_bound n entries = drop-map shown n entries

  pub take_bound : (n : ℕ) (entries : List (Bor (List ℕ) × V)) → take n (bound entries) ≡ bound (take n entries)
  take_bound n entries = take-map shown n entries
