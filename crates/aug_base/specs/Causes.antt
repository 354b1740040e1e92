-- How a count of faults goes (this project's own): it never falls, and it stands still at the last
-- number of 64 bits.
use Rattle.std.specs.Prelude.{ℕ, ◌+◌, ◌-◌, ◌^◌, ◌<◌, ◌≤◌, min}

-- the number after this one, or the last one again
abbrev pub next : ℕ → ℕ
next n = min (n + 1) (2 ^ 64 - 1)

-- a count rose, or stands at its end
abbrev pub Rose : ℕ → ℕ → Type 0
Rose before now = next before ≤ now

-- a count goes no further than its end
abbrev pub Ends : ℕ → ℕ → Type 0
Ends before now = before < 2 ^ 64 → now < 2 ^ 64
