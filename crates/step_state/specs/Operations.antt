-- The operations on a step's values, each at the number of its token. This project's own.
use Rattle.std.specs.Prelude.{ℕ, ℤ, pos, Bool, true, false, ◌==◌, ◌&&◌, ◌||◌, if◌then◌else◌, List, length, slice_get, Option, Some, None, Ok, Err}
use Rattle.item_types.specs.Named.{fields_of, part_of}
use Rattle.item_types.specs.declared.decl.Names.{Names}
use Rattle.item_types.specs.declared.value.NodeId.{NodeId}
use Rattle.item_types.specs.declared.value.Value.{Value, out-Value}
use Rattle.item_types.specs.declared.value.Value.TheOpen.{Value-F}
use Rattle.item_types.specs.declared.value.Value.TheOpen as one
use Rattle.item_types.specs.declared.value.Value.TheVariants as value
use Rattle.operators.specs.Found.{arranged as arranged_or}
use Rattle.operators.specs.Operations.{Operand, is_too_long}
use Rattle.operators.specs.Operations as shared
use Rattle.operators.specs.declared.operand.Operand.TheVariants as operand
use Rattle.operators.specs.declared.operation.Added.{Added}
use Rattle.operators.specs.declared.operation.Added.TheVariants as sum
use Rattle.step_state.specs.declared.outcome.Reason.TheVariants.{Kind, ProxyUsed, Said, TextTooLong}
use Rattle.step_state.specs.Evaluation.{Checked}

-- a value, whose parts are values
abbrev pub Layer : Type 0
Layer = Value-F Value

-- what the operations see of a value
abbrev pub seen_at : Layer → Operand
seen_at one.Null = operand.Null
seen_at (one.Bool b) = operand.Bool b
seen_at (one.Long n) = operand.Long n
seen_at (one.Str t) = operand.Str t
seen_at (one.List id parts) = operand.List (pos (length parts))
seen_at (one.Bean id bean parts) = operand.Other
seen_at (one.Returned p) = operand.Other

unfoldable pub seen : Value → Operand
seen v = seen_at (out-Value v)

abbrev pub is_proxy_at : Layer → Bool
is_proxy_at (one.Returned p) = true
is_proxy_at _ = false

abbrev pub is_proxy : Value → Bool
is_proxy v = is_proxy_at (out-Value v)

-- an operand is a proxy, or is of another kind
abbrev pub refused : {A : Type 0} → ℕ → Bool → Checked A
refused at proxy = Err (if proxy then ProxyUsed at else Kind at)

-- a literal, of 65,535 bytes in modified UTF-8
unfoldable pub text : List ℕ → Checked Value
text t = if is_too_long t then Err TextTooLong else Ok (value.Str t)

abbrev pub summed : ℕ → Bool → Added → Checked Value
summed at proxy (sum.Long n) = Ok (value.Long n)
summed at proxy (sum.Str t) = Ok (value.Str t)
summed at proxy sum.WrongKind = refused at proxy
summed at proxy sum.TooLong = Err TextTooLong

-- the sum of two numbers, or the join of two texts
abbrev pub plus : ℕ → Value → Value → Checked Value
plus at a b = summed at (is_proxy a || is_proxy b) (shared.plus (seen a) (seen b))

-- a truth value, unless an operand is wrong
abbrev pub bool_or_refused : ℕ → Bool → Option Bool → Checked Value
bool_or_refused at proxy (Some b) = Ok (value.Bool b)
bool_or_refused at proxy None = refused at proxy

abbrev pub less : ℕ → Value → Value → Checked Value
less at a b = bool_or_refused at (is_proxy a || is_proxy b) (shared.less (seen a) (seen b))

abbrev pub same_node : NodeId → NodeId → Bool
same_node a b = a.step == b.step && a.k == b.k

-- the same node, or both null, equal truth values, numbers or texts
abbrev pub same_at : Layer → Layer → Bool
same_at (one.List a xs) (one.List b ys) = same_node a b
same_at (one.Bean a k xs) (one.Bean b l ys) = same_node a b
same_at x y = shared.same_plain (seen_at x) (seen_at y)

abbrev pub equal : ℕ → Value → Value → Checked Value
equal at a b = if is_proxy a || is_proxy b then Err (ProxyUsed at) else Ok (value.Bool (same_at (out-Value a) (out-Value b)))

abbrev pub truth_or_refused : ℕ → Bool → Option Bool → Checked Bool
truth_or_refused at proxy (Some b) = Ok b
truth_or_refused at proxy None = refused at proxy

abbrev pub truth : ℕ → Value → Checked Bool
truth at v = truth_or_refused at (is_proxy v) (shared.truth (seen v))

abbrev pub long_or_refused : ℕ → Bool → Option ℤ → Checked Value
long_or_refused at proxy (Some n) = Ok (value.Long n)
long_or_refused at proxy None = refused at proxy

-- how many characters a text has, or how many elements a list
abbrev pub count : ℕ → Value → Checked Value
count at v = long_or_refused at (is_proxy v) (shared.len (seen v))

abbrev pub elements_at : ℕ → Bool → Layer → Checked (List Value)
elements_at at proxy (one.List id parts) = Ok parts
elements_at at proxy _ = refused at proxy

abbrev pub elements : ℕ → Value → Checked (List Value)
elements at v = elements_at at (is_proxy v) (out-Value v)

abbrev pub said_at : {A : Type 0} → ℕ → Bool → Layer → Checked A
said_at at proxy (one.Str t) = Err (Said t)
said_at at proxy _ = refused at proxy

abbrev pub said : {A : Type 0} → ℕ → Value → Checked A
said at v = said_at at (is_proxy v) (out-Value v)

abbrev pub there : ℕ → Option Value → Checked Value
there at (Some v) = Ok v
there at None = Err (Kind at)

-- the field of a bean that has it
abbrev pub field_at : Names → ℕ → List ℕ → Bool → Layer → Checked Value
field_at names at field proxy (one.Bean id bean parts) = there at (part_of field (fields_of (slice_get names.beans bean)) parts)
field_at names at field proxy _ = refused at proxy

unfoldable pub field : Names → ℕ → List ℕ → Value → Checked Value
field names at name v = field_at names at name (is_proxy v) (out-Value v)

-- the values in the declared order of their fields
unfoldable pub arranged : List (List ℕ) → List (List ℕ × Value) → List Value
arranged fields written = arranged_or value.Null fields written
