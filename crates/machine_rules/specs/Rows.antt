-- Instructions whose texts are lists of bytes, as the machine takes them, and those with other texts, seen as such. This project's own.
use Rattle.std.specs.Prelude.{ℕ, suc, List}
use Rattle.machine_rules.specs.declared.action.Action.{Action}
use Rattle.machine_rules.specs.declared.action.Action.TheVariants as action
use Rattle.machine_rules.specs.declared.action.Row.{Row}
use Rattle.machine_rules.specs.declared.action.Row.TheVariants.{Do, Store, Enter, Return}

abbrev pub Act : Type 0
Act = Action (List ℕ)

abbrev pub Step : Type 0
Step = Row (List ℕ)

abbrev pub seen_action : {T U : Type 0} → (T → U) → Action T → Action U
seen_action f action.AconstNull = action.AconstNull
seen_action f (action.Iconst b) = action.Iconst b
seen_action f (action.LdcText t) = action.LdcText (f t)
seen_action f (action.LdcLong n) = action.LdcLong n
seen_action f (action.Aload n) = action.Aload n
seen_action f action.Pop = action.Pop
seen_action f action.Dup = action.Dup
seen_action f (action.GetStatic c n) = action.GetStatic c n
seen_action f (action.PutStatic c n) = action.PutStatic c n
seen_action f (action.PutField b n) = action.PutField b n
seen_action f (action.New k) = action.New k
seen_action f action.NewContext = action.NewContext
seen_action f (action.Init k) = action.Init k
seen_action f action.InitContext = action.InitContext
seen_action f action.Add = action.Add
seen_action f action.PutValue = action.PutValue
seen_action f action.GetValue = action.GetValue
seen_action f action.BooleanOf = action.BooleanOf
seen_action f action.LongOf = action.LongOf
seen_action f (action.Invoke r m n) = action.Invoke r m n

-- the same instruction, its text in another form
abbrev pub seen : {T U : Type 0} → (T → U) → Row T → Row U
seen f (Do a) = Do (seen_action f a)
seen f (Store n) = Store n
seen f (Enter c m n) = Enter c m n
seen f Return = Return

-- how many values an instruction pops
abbrev pub pops : {T : Type 0} → Action T → ℕ
pops action.AconstNull = 0
pops (action.Iconst b) = 0
pops (action.LdcText t) = 0
pops (action.LdcLong n) = 0
pops (action.Aload n) = 0
pops action.Pop = 1
pops action.Dup = 1
pops (action.GetStatic c n) = 0
pops (action.PutStatic c n) = 1
pops (action.PutField b n) = 2
pops (action.New k) = 0
pops action.NewContext = 0
pops (action.Init k) = 1
pops action.InitContext = 1
pops action.Add = 2
pops action.PutValue = 3
pops action.GetValue = 2
pops action.BooleanOf = 1
pops action.LongOf = 1
pops (action.Invoke r m n) = suc n

-- how many units it adds to the stack; one that pops as much as it pushes, or more, adds none
abbrev pub adds : {T : Type 0} → Action T → ℕ
adds action.AconstNull = 1
adds (action.Iconst b) = 1
adds (action.LdcText t) = 1
adds (action.LdcLong n) = 2
adds (action.Aload n) = 1
adds action.Pop = 0
adds action.Dup = 1
adds (action.GetStatic c n) = 1
adds (action.PutStatic c n) = 0
adds (action.PutField b n) = 0
adds (action.New k) = 1
adds action.NewContext = 1
adds (action.Init k) = 0
adds action.InitContext = 0
adds action.Add = 0
adds action.PutValue = 0
adds action.GetValue = 0
adds action.BooleanOf = 0
adds action.LongOf = 0
adds (action.Invoke r m n) = 0
