-- The instructions over values: what each does with its operands, the world and the static fields (JVMS 6.5). This project's own profile.
use Rattle.std.specs.Prelude.{ℕ, ℤ, ◌+◌, ◌==◌, Bool, true, false, cond, List, [], ◌∷◌, length, map, replicate, set, slice_get, Option, Some, None, unwrap_or, option_map, Result, Ok, Err}
use Rattle.item_types.specs.declared.decl.Names.{Names}
use Rattle.startup_rules.specs.Worlds.{World, entered, new_list, new_bean, new_recorder, list_added, field_set, context_put}
use Rattle.startup_rules.specs.Direct.{Rules, Failure}
use Rattle.startup_rules.specs.declared.slot.Slot.{Slot}
use Rattle.startup_rules.specs.declared.slot.Slot.TheVariants as slot
use Rattle.startup_rules.specs.declared.slot.Object.{Object}
use Rattle.startup_rules.specs.declared.slot.Object.TheVariants as object
use Rattle.startup_rules.specs.declared.fault.Invoked.{Invoked}
use Rattle.startup_rules.specs.declared.fault.Invoked.TheVariants.{Value, Failed}
use Rattle.machine_rules.specs.declared.action.Action.TheVariants as action
use Rattle.machine_rules.specs.declared.action.Kind.{Kind}
use Rattle.machine_rules.specs.declared.action.Kind.TheVariants as kind
use Rattle.machine_rules.specs.declared.env.Env.{Env}
use Rattle.machine_rules.specs.declared.item.Item.{Item}
use Rattle.machine_rules.specs.declared.item.Item.TheVariants as item
use Rattle.machine_rules.specs.declared.fault.Fault.{Fault}
use Rattle.machine_rules.specs.declared.fault.Fault.TheVariants as fault
use Rattle.machine_rules.specs.declared.fault.Refusal.{Refusal}
use Rattle.machine_rules.specs.Rows.{Act}
use Rattle.machine_rules.specs.Machine.{Domain, Halt, Stops, refuses, Program, Reader, starts}

abbrev pub units : Item → ℕ
units (item.Slot s) = 1
units item.Context = 1
units (item.Int b) = 1
units (item.Long n) = 2

abbrev pub is_reference : Item → Bool
is_reference (item.Slot s) = true
is_reference item.Context = true
is_reference (item.Int b) = false
is_reference (item.Long n) = false

-- Static fields

abbrev pub static_at : List (List Item) → ℕ → ℕ → Item
static_at statics c n = unwrap_or (slice_get (unwrap_or (slice_get statics c) []) n) (item.Slot slot.Null)

abbrev pub static_put : List (List Item) → ℕ → ℕ → Item → List (List Item)
static_put statics c n i = set statics c (set (unwrap_or (slice_get statics c) []) n i)

abbrev pub null_fields : ℕ → List Item
null_fields n = replicate n (item.Slot slot.Null)

-- Objects

-- an object that is new
abbrev pub fresh : Names → Kind → Object
fresh names kind.List = new_list
fresh names (kind.Bean b) = new_bean names b
fresh names (kind.Recorder r) = new_recorder names r

abbrev pub same_kind : Kind → Object → Bool
same_kind kind.List (object.List items) = true
same_kind (kind.Bean a) (object.Bean b fields) = a == b
same_kind (kind.Recorder a) (object.Recorder b fields) = a == b
same_kind _ _ = false

abbrev pub is_of : Kind → Option Object → Bool
is_of k None = false
is_of k (Some x) = same_kind k x

-- whether object o is there and of that kind
abbrev pub is_kind : Kind → World → ℕ → Bool
is_kind k w o = is_of k (slice_get w.objects o)

-- Operands

-- what an instruction pushes, and what is kept then; or Kind, or a method's failure
abbrev pub Does : Type 0
Does = Result (List Item × Env) (Halt Fault Failure)

abbrev pub none_left : List Item → Does → Does
none_left [] r = r
none_left (a ∷ rest) r = refuses fault.Kind

abbrev pub head_and : List Item → (Item → List Item → Does) → Does
head_and (a ∷ rest) f = f a rest
head_and [] f = refuses fault.Kind

abbrev pub one : List Item → (Item → Does) → Does
one is f = head_and is (λ a is. none_left is (f a))

abbrev pub two : List Item → (Item → Item → Does) → Does
two is f = head_and is (λ a is. one is (f a))

abbrev pub three : List Item → (Item → Item → Item → Does) → Does
three is f = head_and is (λ a is. two is (f a))

abbrev pub as_slot : Item → (Slot → Does) → Does
as_slot (item.Slot s) f = f s
as_slot _ f = refuses fault.Kind

-- the slots that these all are
abbrev pub slots_of : List Item → Option (List Slot)
slots_of [] = Some []
slots_of (item.Slot s ∷ is) = option_map (λ ss. s ∷ ss) (slots_of is)
slots_of (_ ∷ is) = None

abbrev pub as_slots : Option (List Slot) → (List Slot → Does) → Does
as_slots (Some ss) f = f ss
as_slots None f = refuses fault.Kind

abbrev pub as_reference : Item → Does → Does
as_reference i r = cond (is_reference i) r (refuses fault.Kind)

abbrev pub as_int : Item → (Bool → Does) → Does
as_int (item.Int b) f = f b
as_int _ f = refuses fault.Kind

abbrev pub as_long : Item → (ℤ → Does) → Does
as_long (item.Long n) f = f n
as_long _ f = refuses fault.Kind

abbrev pub as_text : Item → (List ℕ → Does) → Does
as_text (item.Slot (slot.Str t)) f = f t
as_text _ f = refuses fault.Kind

abbrev pub as_context : Item → Does → Does
as_context item.Context r = r
as_context _ r = refuses fault.Kind

-- a value of one unit
abbrev pub as_narrow : Item → Does → Does
as_narrow (item.Long n) r = refuses fault.Kind
as_narrow _ r = r

-- an object of that kind
abbrev pub as_kind : Kind → World → Item → (ℕ → Does) → Does
as_kind k w (item.Slot (slot.Obj o)) f = cond (is_kind k w o) (f o) (refuses fault.Kind)
as_kind k w _ f = refuses fault.Kind

-- Effects

abbrev pub gives : Item → Env → Does
gives i e = Ok (i ∷ [], e)

abbrev pub nothing : Env → Does
nothing e = Ok ([], e)

abbrev pub in_world : World → Env → Env
in_world w e = record e { world = w }

-- a method's value, or the startup ends with its failure
abbrev pub called : ℕ → ℕ → Env → Invoked × World → Does
called r m e (Value v, w) = gives (item.Slot v) (record e { world = w; calls = e.calls + 1 })
called r m e (Failed f, w) = Err (Stops (record { world = w; call = e.calls; recorder = r; method = m; fault = f }))

-- the instruction's effect on its operands, the deepest first; Kind where an operand has another kind
abbrev pub does : Rules → Names → Act → List Item → Env → Does
does g names action.AconstNull is e = gives (item.Slot slot.Null) e
does g names (action.Iconst b) is e = gives (item.Int b) e
does g names (action.LdcText t) is e = gives (item.Slot (slot.Str t)) e
does g names (action.LdcLong n) is e = gives (item.Long n) e
does g names (action.Aload n) is e = one is (λ i. gives i e)
does g names action.Pop is e = one is (λ i. as_narrow i (nothing e))
does g names action.Dup is e = one is (λ i. as_narrow i (Ok (i ∷ i ∷ [], e)))
does g names (action.GetStatic c n) is e = gives (static_at e.statics c n) e
does g names (action.PutStatic c n) is e = one is (λ i. as_reference i (nothing (record e { statics = static_put e.statics c n i })))
does g names (action.PutField b k) is e = two is (λ o v. as_slot v (λ v. as_kind (kind.Bean b) e.world o (λ o. nothing (in_world (field_set o k v e.world) e))))
does g names (action.New k) is e = gives (item.Slot (slot.Obj (length e.world.objects))) (in_world (entered (fresh names k) e.world).1 e)
does g names action.NewContext is e = cond e.context_made (refuses fault.Kind) (gives item.Context (record e { context_made = true }))
does g names (action.Init k) is e = one is (λ i. as_kind k e.world i (λ o. nothing e))
does g names action.InitContext is e = one is (λ i. as_context i (nothing e))
does g names action.Add is e = two is (λ l v. as_slot v (λ v. as_kind kind.List e.world l (λ o. gives (item.Int true) (in_world (list_added o v e.world) e))))
does g names action.PutValue is e = three is (λ c t v. as_slot v (λ v. as_text t (λ t. as_context c (nothing (in_world (context_put t v e.world) e)))))
does g names action.GetValue is e = two is (λ c t. as_text t (λ t. as_context c (gives (item.Slot (g.recall e.world.context t)) e)))
does g names action.BooleanOf is e = one is (λ i. as_int i (λ b. gives (item.Slot (slot.Bool b)) e))
does g names action.LongOf is e = one is (λ i. as_long i (λ n. gives (item.Slot (slot.Long n)) e))
does g names (action.Invoke r m n) is e = head_and is (λ me args. as_slots (slots_of args) (λ args. as_kind (kind.Recorder r) e.world me (λ o. called r m e (g.invoke o r m args e.world))))

abbrev pub values : Rules → Names → Domain Item Env Failure
values g names = record { units = units; is_reference = is_reference; does = does g names }

-- all static fields null, no call made, no context
abbrev pub opened : List ℕ → World → Env
opened fields w = record { world = w; statics = map null_fields fields; calls = 0; context_made = false }

-- a startup from that world: what is kept at its end and how many instructions are left of the budget, or where it is refused, or which method failed
abbrev pub startup : {A : Type 0} → Rules → Names → Reader A → Program A → ℕ → World → Result (Env × ℕ) (Halt Refusal Failure)
startup g names read p budget w = starts (values g names) read p budget (opened p.fields w)
