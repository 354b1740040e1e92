-- A fact about values that holds of a whole where it holds of the parts, and back: what the operations give has it where their operands have it.
use Rattle.std.proofs.Common.{◌≡◌, ℕ, zero, suc, ℤ, ◌≤◌, Bool, true, false, ◌||◌, if◌then◌else◌, cond, Option, Some, None, unwrap_or, slice_get, List, [], ◌∷◌, ◌++◌, length, map, Ok, Err, refl, arith}
use Rattle.std.specs.List.{All}
use Rattle.std.specs.Str.{bytes_eq}
use Rattle.std.proofs.lemmas.Bool.Decides.{nat_tests}
use Rattle.std.proofs.lemmas.List.{length-map}
use Rattle.std.proofs.lemmas.List.Elements.{All-nil, All-cons, All-head, All-tail}
use Rattle.item_types.specs.Modified.{modified_len}
use Rattle.item_types.specs.Named.{part_of, fields_of}
use Rattle.item_types.specs.declared.decl.Names.{Names}
use Rattle.item_types.specs.declared.value.NodeId.{NodeId}
use Rattle.item_types.specs.declared.value.Value.{Value, out-Value}
use Rattle.item_types.specs.declared.value.Value.TheOpen as one
use Rattle.item_types.specs.declared.value.Value.TheVariants as value
use Rattle.operators.specs.Found.{found, or_else}
use Rattle.operators.specs.Operations.{Operand, is_too_long, joined}
use Rattle.operators.specs.Operations as shared
use Rattle.operators.specs.declared.operand.Operand.TheVariants as operand
use Rattle.operators.specs.declared.operation.Added.{Added}
use Rattle.operators.specs.declared.operation.Added.TheVariants as added
use Rattle.step_state.specs.declared.outcome.Reason.TheVariants.{TextTooLong, ProxyUsed}
use Rattle.step_state.specs.Evaluation.{Checked}
use Rattle.step_state.specs.Operations.{Layer, seen, is_proxy, text, summed, plus, bool_or_refused, less, equal, same_at, long_or_refused, count, elements, elements_at, there, field, field_at, arranged}
use Rattle.step_eval.specs.Setting.{Setting}
use Rattle.step_eval.specs.Taken.{consumption, list_at, taken_at, taken, first_of}

-- where there is a value, Q holds of it
abbrev pub Only : {A : Type 0} → (A → Type 0) → Checked A → Type 0
Only Q (Ok a) = Q a
Only Q (Err e) = Unit {0}

abbrev IfThere : {A : Type 0} → (A → Type 0) → Option A → Type 0
IfThere Q None = Unit {0}
IfThere Q (Some a) = Q a

-- of beans and numbers of parts at large
abbrev pub Always : ℕ → ℕ → Type 0
Always bean count = Unit {0}

-- P holds of each value that is made of what it holds of, a bean where W holds of it and the number of its parts, and of the parts of each value that it holds of
pub record IsClosed (W : ℕ → ℕ → Type 0) (P : Value → Type 0) : Type 0 where
  pub null : P value.Null
  pub truth : (b : Bool) → P (value.Bool b)
  pub number : (n : ℤ) → P (value.Long n)
  pub short : (t : List ℕ) → modified_len t ≤ 65535 → P (value.Str t)
  pub list : (id : NodeId) (parts : List Value) → All P parts → P (value.List id parts)
  pub bean : (id : NodeId) (bean : ℕ) (parts : List Value) → W bean (length parts) → All P parts → P (value.Bean id bean parts)
  pub of_list : (v : Value) (id : NodeId) (parts : List Value) → out-Value v ≡ one.List id parts → P v → All P parts
  pub of_bean : (v : Value) (id : NodeId) (bean : ℕ) (parts : List Value) → out-Value v ≡ one.Bean id bean parts → P v → All P parts

-- a text that isn't too long
within : (t : List ℕ) → is_too_long t ≡ false → modified_len t ≤ 65535
within t h = grind (arith, nat_tests)

-- a sum whose text, if it is one, isn't too long
abbrev ShortSum : Added → Type 0
ShortSum (added.Long n) = Unit {0}
ShortSum (added.Str t) = modified_len t ≤ 65535
ShortSum added.WrongKind = Unit {0}
ShortSum added.TooLong = Unit {0}

joined_short : (a b : List ℕ) → ShortSum (joined a b)
joined_short a b = by (is_too_long (a ++ b)) refl
  where
    by : (c : Bool) → is_too_long (a ++ b) ≡ c → ShortSum (if c then added.TooLong else added.Str (a ++ b))
    by true e = tt
    by false e = within (a ++ b) e

plus_short : (x y : Operand) → ShortSum (shared.plus x y)
plus_short (operand.Long a) (operand.Long b) = tt
plus_short (operand.Str a) (operand.Str b) = joined_short a b
plus_short (operand.Long a) operand.Null = tt
plus_short (operand.Long a) (operand.Bool b) = tt
plus_short (operand.Long a) (operand.Str b) = tt
plus_short (operand.Long a) (operand.List n) = tt
plus_short (operand.Long a) operand.Other = tt
plus_short (operand.Str a) operand.Null = tt
plus_short (operand.Str a) (operand.Bool b) = tt
plus_short (operand.Str a) (operand.Long b) = tt
plus_short (operand.Str a) (operand.List n) = tt
plus_short (operand.Str a) operand.Other = tt
plus_short operand.Null y = tt
plus_short (operand.Bool a) y = tt
plus_short (operand.List n) y = tt
plus_short operand.Other y = tt

module _ (W : ℕ → ℕ → Type 0) (P : Value → Type 0) (C : IsClosed W P) where
  pub text_has : (t : List ℕ) → Only P (text t)
  unfolding text
  text_has t = by (is_too_long t) refl
    where
      by : (c : Bool) → is_too_long t ≡ c → Only P (if c then Err TextTooLong else Ok (value.Str t))
      by true e = tt
      by false e = C.short t (within t e)

  summed_has : (at : ℕ) (proxy : Bool) (sum : Added) → ShortSum sum → Only P (summed at proxy sum)
  summed_has at proxy (added.Long n) h = C.number n
  summed_has at proxy (added.Str t) h = C.short t h
  summed_has at proxy added.WrongKind h = tt
  summed_has at proxy added.TooLong h = tt

  pub plus_has : (at : ℕ) (a b : Value) → Only P (plus at a b)
  plus_has at a b = summed_has at (is_proxy a || is_proxy b) (shared.plus (seen a) (seen b)) (plus_short (seen a) (seen b))

  bool_has : (at : ℕ) (proxy : Bool) (o : Option Bool) → Only P (bool_or_refused at proxy o)
  bool_has at proxy (Some b) = C.truth b
  bool_has at proxy None = tt

  pub less_has : (at : ℕ) (a b : Value) → Only P (less at a b)
  less_has at a b = bool_has at (is_proxy a || is_proxy b) (shared.less (seen a) (seen b))

  pub equal_has : (at : ℕ) (a b : Value) → Only P (equal at a b)
  equal_has at a b = elim (is_proxy a || is_proxy b) as
      (λ c. Only P (if c then Err (ProxyUsed at) else Ok (value.Bool (same_at (out-Value a) (out-Value b))))) [ true ↦ tt | false ↦ C.truth (same_at (out-Value a) (out-Value b)) ]

  long_has : (at : ℕ) (proxy : Bool) (o : Option ℤ) → Only P (long_or_refused at proxy o)
  long_has at proxy (Some n) = C.number n
  long_has at proxy None = tt

  pub count_has : (at : ℕ) (v : Value) → Only P (count at v)
  count_has at v = long_has at (is_proxy v) (shared.len (seen v))

  elements_at_has : (at : ℕ) (proxy : Bool) (v : Value) (y : Layer) → out-Value v ≡ y → P v → Only (λ vs. All P vs) (elements_at at proxy y)
  elements_at_has at proxy v (one.List id parts) e h = C.of_list v id parts e h
  elements_at_has at proxy v one.Null e h = tt
  elements_at_has at proxy v (one.Bool b) e h = tt
  elements_at_has at proxy v (one.Long n) e h = tt
  elements_at_has at proxy v (one.Str t) e h = tt
  elements_at_has at proxy v (one.Bean id bean parts) e h = tt
  elements_at_has at proxy v (one.Returned p) e h = tt

  pub elements_have : (at : ℕ) (v : Value) → P v → Only (λ vs. All P vs) (elements at v)
  elements_have at v h = elements_at_has at (is_proxy v) v (out-Value v) refl h

  part_has : (name : List ℕ) (fields : List (List ℕ)) (parts : List Value) → All P parts → IfThere P (part_of name fields parts)
  part_has name [] parts h = tt
  part_has name (f ∷ fs) [] h = tt
  part_has name (f ∷ fs) (p ∷ ps) h = elim (bytes_eq f name) as (λ b. IfThere P (cond b (Some p) (part_of name fs ps)))
      [ true ↦ All-head P p ps h | false ↦ part_has name fs ps (All-tail P p ps h) ]

  there_has : (at : ℕ) (o : Option Value) → IfThere P o → Only P (there at o)
  there_has at None h = tt
  there_has at (Some v) h = h

  field_at_has : (names : Names) (at : ℕ) (name : List ℕ) (proxy : Bool) (v : Value) (y : Layer) → out-Value v ≡ y → P v → Only P (field_at names at name proxy y)
  field_at_has names at name proxy v (one.Bean id bean parts) e h =
      there_has at (part_of name (fields_of (slice_get names.beans bean)) parts)
      (part_has name (fields_of (slice_get names.beans bean)) parts (C.of_bean v id bean parts e h))
  field_at_has names at name proxy v one.Null e h = tt
  field_at_has names at name proxy v (one.Bool b) e h = tt
  field_at_has names at name proxy v (one.Long n) e h = tt
  field_at_has names at name proxy v (one.Str t) e h = tt
  field_at_has names at name proxy v (one.List id parts) e h = tt
  field_at_has names at name proxy v (one.Returned p) e h = tt

  pub field_has : (names : Names) (at : ℕ) (name : List ℕ) (v : Value) → P v → Only P (field names at name v)
  unfolding field
  field_has names at name v h = field_at_has names at name (is_proxy v) v (out-Value v) refl h

  -- P holds of the values of these names
  abbrev pub NamedHave : List (List ℕ × Value) → Type 0
  NamedHave entries = All (λ e. P e.1) entries

  or_else_has : (o p : Option Value) → IfThere P o → IfThere P p → IfThere P (or_else o p)
  or_else_has None p h k = k
  or_else_has (Some v) p h k = h

  entry_has : (e : List ℕ × Value) (b : Bool) → P e.1 → IfThere P (cond b (Some e.1) None)
  entry_has e true h = h
  entry_has e false h = tt

  there_found : (entries : List (List ℕ × Value)) (name : List ℕ) → NamedHave entries → IfThere P (found entries name)
  there_found [] name h = tt
  there_found (e ∷ es) name h = or_else_has (found es name) (cond (bytes_eq e.0 name) (Some e.1) None)
      (there_found es name (All-tail (λ x. P x.1) e es h)) (entry_has e (bytes_eq e.0 name) (All-head (λ x. P x.1) e es h))

  or_null : (o : Option Value) → IfThere P o → P (unwrap_or o value.Null)
  or_null None h = C.null
  or_null (Some v) h = h

  pub found_has : (entries : List (List ℕ × Value)) (name : List ℕ) → NamedHave entries → P (unwrap_or (found entries name) value.Null)
  found_has entries name h = or_null (found entries name) (there_found entries name h)

  arrange : (fields : List (List ℕ)) (written : List (List ℕ × Value)) → NamedHave written → All P (map (λ f. unwrap_or (found written f) value.Null) fields)
  arrange [] written h = All-nil P
  arrange (f ∷ fs) written h = All-cons P _ _ (found_has written f h) (arrange fs written h)

  pub arranged_have : (fields : List (List ℕ)) (written : List (List ℕ × Value)) → NamedHave written → All P (arranged fields written)
  unfolding arranged
  arranged_have fields written h = arrange fields written h

  pub arranged_count : (fields : List (List ℕ)) (written : List (List ℕ × Value)) → length (arranged fields written) ≡ length fields
  unfolding arranged
  arranged_count fields written = length-map fields (λ f. unwrap_or (found written f) value.Null)

  pub list_at_has : (lists : List (List Value)) (place : ℕ) → All (λ vs. All P vs) lists → All P (list_at lists place)
  list_at_has [] place h = All-nil P
  list_at_has (vs ∷ ls) zero h = All-head (λ xs. All P xs) vs ls h
  list_at_has (vs ∷ ls) (suc n) h = list_at_has ls n (All-tail (λ xs. All P xs) vs ls h)

  taken_at_has : (lists : List (List Value)) (place : Option ℕ) → All (λ vs. All P vs) lists → All P (taken_at lists place)
  taken_at_has lists None h = All-nil P
  taken_at_has lists (Some n) h = list_at_has lists n h

  pub taken_have : (cx : Setting) (item : ℕ) → All (λ vs. All P vs) cx.lists → All P (taken cx item)
  unfolding taken
  taken_have cx item h = taken_at_has cx.lists (consumption cx.decl item) h

  pub first_has : (vs : List Value) → All P vs → P (first_of vs)
  first_has [] h = C.null
  first_has (v ∷ vs) h = All-head P v vs h
