-- Code of any elements that spells the instructions of another code. This project's own.
use Rattle.std.specs.Prelude.{ℕ, List, [], ◌∷◌, Option, Some, None, Result, Ok, Err, ◌≡◌}
use Rattle.item_types.specs.declared.decl.Names.{Names}
use Rattle.startup_rules.specs.Worlds.{World}
use Rattle.startup_rules.specs.Direct.{Rules}
use Rattle.machine_rules.specs.declared.action.First.{First}
use Rattle.machine_rules.specs.declared.fault.Fault.{Fault}
use Rattle.machine_rules.specs.declared.fault.Fault.TheVariants as fault
use Rattle.machine_rules.specs.declared.fault.Refusal.{Refusal}
use Rattle.machine_rules.specs.Rows.{Step}
use Rattle.machine_rules.specs.Machine.{Halt, Refuses, Stops, Program, Reader, Method}
use Rattle.machine_rules.specs.Values.{startup}

-- without the place of a fault
abbrev pub unplaced : {B X : Type 0} → Result B (Halt Refusal X) → Result B (Halt Fault X)
unplaced (Ok a) = Ok a
unplaced (Err (Refuses x)) = Err (Refuses x.fault)
unplaced (Err (Stops x)) = Err (Stops x)

-- code that is a list of instructions reads as they are, and ends without one
abbrev pub read_named : Reader Step
read_named c [] = Err fault.Opcode
read_named c (i ∷ rest) = Ok (i, rest)

-- the class reads this code as these instructions, to their end
abbrev pub Spells : {A : Type 0} → Reader A → ℕ → List A → List Step → Type 0
Spells read c code [] = read c code ≡ Err fault.Opcode
Spells {A} read c code (i ∷ is) = (rest : List A) × (read c code ≡ Ok (i, rest)) × Spells read c rest is

abbrev pub SameMethod : {A : Type 0} → Reader A → ℕ → Option (Method A) → Option (Method Step) → Type 0
SameMethod read c None None = Unit {0}
SameMethod read c (Some b) (Some m) = (b.max_stack ≡ m.max_stack) × (b.max_locals ≡ m.max_locals) × (b.catches ≡ m.catches) × Spells read c b.code m.code
SameMethod read c None (Some m) = ⊥
SameMethod read c (Some b) None = ⊥

-- loaded classes whose methods spell those of a program of instructions
pub record SameProgram {A : Type 0} (read : Reader A) (p : Program A) (q : Program Step) : Type 0 where
  pub main : p.main ≡ q.main
  pub first : (name : First) → p.first name ≡ q.first name
  pub fields : p.fields ≡ q.fields
  pub method : (c number : ℕ) → SameMethod read c (p.method c number) (q.method c number)

-- startup of code is startup of the instructions that it spells, but for the places of faults
abbrev pub SpelledStartupIsSame : Type 0
SpelledStartupIsSame = (g : Rules) (names : Names) (read : Reader ℕ) (p : Program ℕ) (q : Program Step) → SameProgram read p q → (budget : ℕ) (w : World) →
    unplaced (startup g names read p budget w) ≡ unplaced (startup g names read_named q budget w)
