-- What a part of a method does: it gives a value, or the method ends, and in both cases the world is known. This project's own.
use Rattle.std.specs.Prelude.{ℕ, List, Result, Ok, Err}
use Rattle.startup_rules.specs.Worlds.{World}
use Rattle.startup_rules.specs.declared.slot.Slot.{Slot}
use Rattle.startup_rules.specs.declared.fault.MethodFault.{MethodFault}
use Rattle.startup_rules.specs.declared.fault.Invoked.{Invoked}
use Rattle.startup_rules.specs.declared.fault.Invoked.TheVariants.{Value, Failed}
use Rattle.startup_rules.specs.declared.op.Op.{Op}
use Rattle.startup_rules.specs.Operations.{Within, Checked, effect, elements}

abbrev pub Ends : Type 0 → Type 0
Ends A = Result A Invoked × World

abbrev pub Act : Type 0 → Type 0
Act A = World → Ends A

abbrev pub next : {A B : Type 0} → Result A Invoked → World → (A → Act B) → Ends B
next (Ok a) w f = f a w
next (Err x) w f = (Err x, w)

infixl 10 ◌>>=◌
abbrev pub ◌>>=◌ : {A B : Type 0} → Act A → (A → Act B) → Act B
p >>= f = λ w. next (p w).0 (p w).1 f

infixl 10 ◌>>◌
abbrev pub ◌>>◌ : {A B : Type 0} → Act A → Act B → Act B
p >> q = p >>= (λ _. q)

abbrev pub pure : {A : Type 0} → A → Act A
pure a = λ w. (Ok a, w)

abbrev pub give : {A : Type 0} → Slot → Act A
give v = λ w. (Err (Value v), w)

-- a fault leaves the world as it was
abbrev pub settled : World → Checked (Slot × World) → Ends Slot
settled w (Ok r) = (Ok r.0, r.1)
settled w (Err f) = (Err (Failed f), w)

-- one operation: the one way to the world
abbrev pub op : Within → Op → Act Slot
op cx o = λ w. settled w (effect cx o w)

abbrev pub ended : Result Slot Invoked → Invoked
ended (Ok v) = Value v
ended (Err x) = x

-- what an operation comes to, and the world then
abbrev pub apply : Within → Op → World → Invoked × World
apply cx o w = (ended (op cx o w).0, (op cx o w).1)

abbrev pub listed : Slot → Act (List Slot)
listed v = λ w. (Ok (elements w v), w)
