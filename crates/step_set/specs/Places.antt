-- The places of a set of steps, each of which holds the lesser of the two below it. This project's own.
use Rattle.std.specs.Prelude.{◌≡◌, ℕ, ◌+◌, ◌*◌, ◌<◌, ◌≤◌, ◌^◌, ◌⊎◌, Bool, false, cond, List, length, slice_index_or}

pub record IsLesser (left right lesser : ℕ) : Type 0 where
  pub left_above : lesser ≤ left
  pub right_above : lesser ≤ right
  pub one : (lesser ≡ left) ⊎ (lesser ≡ right)

abbrev pub place : List ℕ → ℕ → ℕ
place places i = slice_index_or places i 0

abbrev pub HoldsLesser : List ℕ → ℕ → Type 0
HoldsLesser places i = IsLesser (place places (2 * i)) (place places (2 * i + 1)) (place places i)

-- each place that has two below it holds the lesser of theirs
abbrev pub AreLesser : ℕ → List ℕ → Type 0
AreLesser bound places = (i : ℕ) → 1 ≤ i → i < bound → HoldsLesser places i

-- a step's own place holds its number, or the bound where it isn't in the set
abbrev pub own : List Bool → ℕ → ℕ
own members s = cond (slice_index_or members s false) s (length members)

pub record AreFilled (members : List Bool) (places : List ℕ) : Type 0 where
  pub few : length members < 2 ^ 32
  pub wide : length places ≡ length members + length members
  pub steps : (s : ℕ) → s < length members → place places (length members + s) ≡ own members s
  pub lesser : AreLesser (length members) places
