-- What a sink is, and what a put to it does (this project's own).
use Rattle.std.specs.Prelude.{ℕ, ◌≤◌, ◌≡◌, ◌++◌, List, take, length, Option, option_map, Result, IfOk, OnOk, OnErr, IfErr}
use Rattle.aug_base.specs.declared.errors.SinkErr.{SinkErr}
use Rattle.aug_base.specs.declared.errors.SinkErr.TheVariants.{Failed}
use Rattle.aug_base.specs.Causes.{Rose}
use Rattle.aug_base.specs.Files.{Begins}

-- how often puts have failed, and, where the sink tells it, what it has taken
pub record Taken : Type 0 where
  pub faults : ℕ
  pub bytes : Option (List ℕ)

-- these bytes were appended
abbrev pub Grows : List ℕ → Option (List ℕ) → Option (List ℕ) → Type 0
Grows more before now = now ≡ option_map (λ bytes. bytes ++ more) before

-- the first of these bytes were appended, some, all or none
abbrev pub GrowsBySome : List ℕ → Option (List ℕ) → Option (List ℕ) → Type 0
GrowsBySome more before now = (front : List ℕ) × Begins front more × Grows front before now

-- a put of a piece, of which the first bytes are taken
pub record Puts (piece : List ℕ) (before now : Taken) (result : Result ℕ SinkErr) : Type 0 where
  pub later : before.faults ≤ now.faults
  pub kept : OnOk result (now.faults ≡ before.faults)
  pub within : IfOk result (λ n. n ≤ length piece)
  pub some : IfOk result (λ n. n ≡ 0 → length piece ≡ 0)
  pub ok : IfOk result (λ n. Grows (take n piece) before.bytes now.bytes)
  pub err : OnErr result (now.bytes ≡ before.bytes)
  pub failed : IfErr result (λ err. err ≡ Failed → Rose before.faults now.faults)

-- a put of all the bytes
pub record PutsAll (bytes : List ℕ) (before now : Taken) (result : Result (Unit {0}) SinkErr) : Type 0 where
  pub later : before.faults ≤ now.faults
  pub kept : OnOk result (now.faults ≡ before.faults)
  pub ok : OnOk result (Grows bytes before.bytes now.bytes)
  pub err : OnErr result (GrowsBySome bytes before.bytes now.bytes)
  pub failed : IfErr result (λ err. err ≡ Failed → Rose before.faults now.faults)
