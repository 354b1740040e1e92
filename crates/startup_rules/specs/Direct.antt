-- Recorded calls that are made directly: the rules of a startup, without any class file. This project's own, after Quarkus's recorders.
use Rattle.std.specs.Prelude.{ℕ, ◌+◌, ◌==◌, ◌&&◌, Bool, true, false, cond, List, [], ◌∷◌, ◌++◌, length, map, Option, Some, None, Result, Ok, Err, codes}
use Rattle.std.specs.Fmt.{decimal}
use Rattle.item_types.specs.declared.decl.Names.{Names}
use Rattle.item_types.specs.declared.value.NodeId.{NodeId}
use Rattle.item_types.specs.declared.value.Value.{Value}
use Rattle.item_types.specs.declared.value.Value.TheOpen.{Value-F}
use Rattle.item_types.specs.declared.value.Value.TheOpen as one
use Rattle.item_types.specs.declared.value.Value.TheFolds.{fold-Value}
use Rattle.recorder_proxy.specs.declared.call.Call.{Call}
use Rattle.recorder_proxy.specs.declared.call.Recording.{Recording}
use Rattle.syntax_tree.specs.declared.tree.Methods.{Methods}
use Rattle.startup_rules.specs.Worlds.{World, entered, new_list, new_bean, new_recorder, list_added, field_set, context_put, context_get, opening}
use Rattle.startup_rules.specs.declared.slot.Slot.{Slot}
use Rattle.startup_rules.specs.declared.slot.Slot.TheVariants as slot
use Rattle.startup_rules.specs.declared.slot.Object.{Object}
use Rattle.startup_rules.specs.declared.fault.MethodFault.{MethodFault}
use Rattle.startup_rules.specs.declared.fault.Invoked.{Invoked}
use Rattle.startup_rules.specs.declared.fault.Invoked.TheVariants.{Value as Gives, Failed}
use Rattle.startup_rules.specs.Methods.{invoked}

-- What a startup takes from outside: what a method of a recorder does when it's called on its object, and what is read from the context.
pub record Rules : Type 0 where
  pub invoke : (me recorder method : ℕ) → List Slot → World → Invoked × World
  pub recall : List (List ℕ × Slot) → List ℕ → Slot

-- methods mean what they mean, and the context gives what was put into it
abbrev pub rules_of : Methods → Names → Rules
rules_of methods names = record { invoke = invoked methods names; recall = context_get }

-- a startup that ends early: the world then, the number of calls before, and which method failed how
pub record Failure : Type 0 where
  pub world : World
  pub call : ℕ
  pub recorder : ℕ
  pub method : ℕ
  pub fault : MethodFault

-- what has an object of its own in a recording
pub data Key : Type 0 where
  RecorderKey : ℕ → Key
  NodeKey : NodeId → Key

abbrev pub same_key : Key → Key → Bool
same_key (RecorderKey a) (RecorderKey b) = a == b
same_key (NodeKey a) (NodeKey b) = (a.step == b.step) && (a.k == b.k)
same_key _ _ = false

-- The state within a recording: the world, the objects of its recorders and nodes in the order of first use, and how many calls were made in all.
pub record Now : Type 0 where
  pub world : World
  pub objects : List (Key × ℕ)
  pub calls : ℕ

-- the object of that key
abbrev pub object_of : Key → List (Key × ℕ) → Option ℕ
object_of key [] = None
object_of key (e ∷ es) = cond (same_key key e.0) (Some e.1) (object_of key es)

-- the key of the context for what a call gives
abbrev pub proxy_key : ℕ → ℕ → List ℕ
proxy_key step call = codes "proxy$" ++ decimal step ++ codes "$" ++ decimal call

abbrev pub in_world : (World → World) → Now → Now
in_world f s = record s { world = f s.world }

-- a new object, entered under its key
abbrev pub made : Key → Object → Now → Now
made key x s = record s { world = (entered x s.world).1; objects = s.objects ++ (key, length s.world.objects) ∷ [] }

-- A tree is turned into a slot.
abbrev pub Turning : Type 0
Turning = Now → Now × Slot

-- a node that has its object is that object, and another one's object is made
abbrev pub node : Option ℕ → Turning → Turning
node (Some o) make s = (s, slot.Obj o)
node None make s = make s

-- a part is turned, and then added to the list
abbrev pub added : Turning → ℕ → Now → Now
added p o s = in_world (list_added o (p s).1) (p s).0

-- a part is turned, and then set in the bean
abbrev pub set_in : Turning → ℕ → ℕ → Now → Now
set_in p o k s = in_world (field_set o k (p s).1) (p s).0

abbrev pub elements : List Turning → ℕ → Now → Now
elements [] o s = s
elements (p ∷ ps) o s = elements ps o (added p o s)

-- from field k on
abbrev pub fields : List Turning → ℕ → ℕ → Now → Now
fields [] o k s = s
fields (p ∷ ps) o k s = fields ps o (k + 1) (set_in p o k s)

-- the object is made and entered before its parts are turned and set
abbrev pub new_list_of : NodeId → List Turning → Turning
new_list_of id ps s = (elements ps (length s.world.objects) (made (NodeKey id) new_list s), slot.Obj (length s.world.objects))

abbrev pub new_bean_of : Names → NodeId → ℕ → List Turning → Turning
new_bean_of names id bean ps s = (fields ps (length s.world.objects) 0 (made (NodeKey id) (new_bean names bean) s), slot.Obj (length s.world.objects))

abbrev pub turn_step : Rules → Names → Value-F Turning → Turning
turn_step g names one.Null s = (s, slot.Null)
turn_step g names (one.Bool b) s = (s, slot.Bool b)
turn_step g names (one.Long n) s = (s, slot.Long n)
turn_step g names (one.Str t) s = (s, slot.Str t)
turn_step g names (one.List id parts) s = node (object_of (NodeKey id) s.objects) (new_list_of id parts) s
turn_step g names (one.Bean id bean parts) s = node (object_of (NodeKey id) s.objects) (new_bean_of names id bean parts) s
turn_step g names (one.Returned p) s = (s, g.recall s.world.context (proxy_key p.step p.call))

abbrev pub turn : Rules → Names → Value → Turning
turn g names = fold-Value Turning (turn_step g names)

-- the arguments, from left to right
abbrev pub turn_all : List Turning → Now → Now × List Slot
turn_all [] s = (s, [])
turn_all (p ∷ ps) s = ((turn_all ps (p s).0).0, (p s).1 ∷ (turn_all ps (p s).0).1)

-- the recorder's object, or a new one with null fields
abbrev pub receiver_at : Names → ℕ → Option ℕ → Now → Now × ℕ
receiver_at names r (Some o) s = (s, o)
receiver_at names r None s = (made (RecorderKey r) (new_recorder names r) s, length s.world.objects)

abbrev pub receiver : Names → ℕ → Now → Now × ℕ
receiver names r s = receiver_at names r (object_of (RecorderKey r) s.objects) s

-- what a kept call gives stands under its key
abbrev pub keep : Bool → ℕ → ℕ → Slot → World → World
keep false step j v w = w
keep true step j v w = context_put (proxy_key step j) v w

abbrev pub after_call : ℕ → ℕ → Call → Now → Invoked × World → Result Now Failure
after_call step j c s (Gives v, w) = Ok (record s { world = keep c.keeps step j v w; calls = s.calls + 1 })
after_call step j c s (Failed f, w) = Err (record { world = w; call = s.calls; recorder = c.recorder; method = c.method; fault = f })

abbrev pub call_on : Rules → ℕ → ℕ → Call → ℕ → Now × List Slot → Result Now Failure
call_on g step j c me args = after_call step j c args.0 (g.invoke me c.recorder c.method args.1 args.0.world)

-- call j of the step: the recorder's object, then the arguments, then the method
abbrev pub call : Rules → Names → ℕ → ℕ → Call → Now → Result Now Failure
call g names step j c s = call_on g step j c (receiver names c.recorder s).1 (turn_all (map (turn g names) c.args) (receiver names c.recorder s).0)

abbrev pub then_ok : {A B : Type 0} → Result A Failure → (A → Result B Failure) → Result B Failure
then_ok (Ok a) f = f a
then_ok (Err e) f = Err e

-- the calls from number j on
abbrev pub calls_from : Rules → Names → ℕ → ℕ → List Call → Now → Result Now Failure
calls_from g names step j [] s = Ok s
calls_from g names step j (c ∷ cs) s = then_ok (call g names step j c s) (calls_from g names step (j + 1) cs)

-- each recording begins with no object of its own
abbrev pub opened : World → ℕ → Now
opened w calls = record { world = w; objects = []; calls = calls }

-- the recordings one after the other, after that many calls
abbrev pub recordings_from : Rules → Names → List Recording → World → ℕ → Result World Failure
recordings_from g names [] w n = Ok w
recordings_from g names (r ∷ rs) w n = then_ok (calls_from g names r.step 0 r.calls (opened w n)) (λ s. recordings_from g names rs s.world s.calls)

-- the recordings' calls, made directly, from the opening world on
abbrev pub direct : Methods → Names → List Recording → Result World Failure
direct methods names recordings = recordings_from (rules_of methods names) names recordings (opening names) 0
