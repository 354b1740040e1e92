-- Laws of startups. This project's own.
use Rattle.std.specs.Prelude.{◌≡◌, ◌⊎◌, ℕ, ◌+◌, ◌≤◌, Result, Ok, Err}
use Rattle.item_types.specs.declared.decl.Names.{Names}
use Rattle.startup_rules.specs.Worlds.{World}
use Rattle.startup_rules.specs.Direct.{Rules, Failure}
use Rattle.machine_rules.specs.declared.fault.Fault.TheVariants as fault
use Rattle.machine_rules.specs.declared.fault.Refusal.{Refusal}
use Rattle.machine_rules.specs.Machine.{Halt, Refuses, Stops, Program, Reader}
use Rattle.machine_rules.specs.declared.env.Env.{Env}
use Rattle.machine_rules.specs.Values.{startup}

-- a startup that ends leaves no more of its budget than it had
abbrev pub BudgetIsSpent : Type 0
BudgetIsSpent = (g : Rules) (names : Names) (read : Reader ℕ) (p : Program ℕ) (budget : ℕ) (w : World) (e : Env) (left : ℕ) → startup g names read p budget w ≡ Ok (e, left) → left ≤ budget

-- how it ends, with that much more left of the budget
abbrev pub with_more : ℕ → Result (Env × ℕ) (Halt Refusal Failure) → Result (Env × ℕ) (Halt Refusal Failure)
with_more more (Ok r) = Ok (r.0, r.1 + more)
with_more more (Err x) = Err x

abbrev pub RunsOut : Result (Env × ℕ) (Halt Refusal Failure) → Type 0
RunsOut (Ok r) = ⊥
RunsOut (Err (Refuses x)) = x.fault ≡ fault.Turns
RunsOut (Err (Stops x)) = ⊥

-- a startup whose budget isn't spent goes the same way with any greater one
abbrev pub EnoughIsEnough : Type 0
EnoughIsEnough = (g : Rules) (names : Names) (read : Reader ℕ) (p : Program ℕ) (budget more : ℕ) (w : World) →
    RunsOut (startup g names read p budget w) ⊎ (startup g names read p (budget + more) w ≡ with_more more (startup g names read p budget w))
