-- The code of a recording has few bytes.
use Rattle.std.proofs.Common.{◌≡◌, ℕ, zero, suc, ◌+◌, ◌*◌, ◌≤◌, Bool, true, false, cond, List, [], ◌∷◌, ◌++◌, length, map, sum, sum_by, take, drop, Option, Some, None, refl, sym, subst, ◌∙◌, arith, length-append}
use Rattle.std.specs.List.{flat_map}
use Rattle.std.proofs.lemmas.List.Sums.{sum_by-cons}
use Rattle.item_types.specs.Measure.{cells, cells_step}
use Rattle.item_types.specs.declared.decl.Names.{Names}
use Rattle.item_types.specs.declared.value.Value.{Value, roll-Value, ind-Value, fold-roll-Value}
use Rattle.item_types.specs.declared.value.Value.TheOpen.{Value-F}
use Rattle.item_types.specs.declared.value.Value.TheFolds.{map-Value}
use Rattle.item_types.specs.declared.value.Value.TheOpen as one_of
use Rattle.recorder_proxy.specs.declared.call.Call.{Call}
use Rattle.recorder_proxy.specs.Sizes.{cells_of}
use Rattle.class_code.specs.declared.opcode.Opcode.TheVariants as op
use Rattle.recording_units.specs.declared.types.Key.{Key}
use Rattle.recording_units.specs.declared.types.Key.TheVariants as key
use Rattle.recording_units.specs.declared.types.Kind.{Kind}
use Rattle.recording_units.specs.declared.types.Kind.TheVariants as kind
use Rattle.recording_units.specs.declared.types.Used.{Used}
use Rattle.recording_units.specs.declared.types.Arg.{Arg}
use Rattle.recording_units.specs.declared.types.Arg.TheVariants as arg
use Rattle.recording_units.specs.declared.types.Piece.{Piece}
use Rattle.recording_units.specs.declared.types.Piece.TheVariants as piece
use Rattle.value_literals.specs.declared.op.Op.{Op}
use Rattle.value_literals.specs.declared.op.Op.TheVariants.{Plain, Naming}
use Rattle.recording_units.specs.Units.{Listed, ListedAll, place, Listing, Walked, elements, fields, used_or, units_step, units, units_all, recorder_units, number_of, kept_under, call_units, calls_units}
use Rattle.value_literals.specs.Code.{value_code, call_code, unit_code, recorder_method}
use Rattle.value_literals.specs.Emitted.{part, part_code}
use Rattle.value_literals.specs.Members.{op_size, ops_size}
use Rattle.value_literals.specs.Sizes.{value_size, values_size, unit_size, units_size, AreShort, AreSmall}
use Rattle.value_literals.proofs.Filling.{size_append}

size_of_append : (ps qs : List Piece) → units_size (ps ++ qs) ≡ units_size ps + units_size qs
size_of_append [] qs = omega arith
size_of_append (p ∷ ps) qs = omega (arith, size_of_append ps qs)

small_append : (ps qs : List Piece) → AreSmall ps → AreSmall qs → AreSmall (ps ++ qs)
small_append [] qs h k = k
small_append (p ∷ ps) qs h k = (h.0, small_append ps qs h.1 k)

value_small : (a : Arg) → value_size a ≤ 7
value_small arg.Null = omega arith
value_small (arg.Bool b) = omega arith
value_small (arg.Long n) = omega arith
value_small (arg.Str t) = omega arith
value_small (arg.Kept k) = omega arith
value_small (arg.Made n k) = omega arith

values_small : (xs : List Arg) → values_size xs ≤ 7 * length xs
values_small [] = omega arith
values_small (a ∷ xs) = omega (arith, value_small a, values_small xs)

-- ---- values: 20 bytes for each cell, of these 7 for its place

record Short (size : ℕ) (l : Listed) : Type 0 where
  pub bytes : units_size l.units + value_size l.value + 7 ≤ 20 * size
  pub small : AreSmall l.units

abbrev Shorts : Value → Type 0
Shorts v = (used : List Used) → Short (cells v) (units v used)

abbrev Each : Type 0
Each = (v : Value) × Shorts v

abbrev listings : List Each → List Listing
listings es = map units (map (λ e. e.0) es)

abbrev sizes : List Each → List ℕ
sizes es = map cells (map (λ e. e.0) es)

record Few (total : ℕ) (r : Walked) : Type 0 where
  pub bytes : units_size r.1 ≤ 20 * total
  pub small : AreSmall r.1

elements_few : (es : List Each) (n : ℕ) (used : List Used) → Few (sum (sizes es)) (elements (listings es) n used)
elements_few [] n used = record { bytes = omega arith; small = tt }
elements_few (e ∷ es) n used =
    let a = units e.0 used in
    let l = e.1 used in
    let r = elements_few es n a.used in
    let tail = (elements (listings es) n a.used).1 in
    record {
      bytes = omega (arith, l.bytes, r.bytes, size_of_append a.units (piece.SetElement n a.value ∷ tail), sum_by-cons (λ n. n) (cells e.0) (sizes es));
      small = small_append a.units (piece.SetElement n a.value ∷ tail) l.small (omega (arith, value_small a.value), r.small);
    }

fields_few : (es : List Each) (n bean f : ℕ) (used : List Used) → Few (sum (sizes es)) (fields (listings es) n bean f used)
fields_few [] n bean f used = record { bytes = omega arith; small = tt }
fields_few (e ∷ es) n bean f used =
    let a = units e.0 used in
    let l = e.1 used in
    let r = fields_few es n bean (f + 1) a.used in
    let tail = (fields (listings es) n bean (f + 1) a.used).1 in
    record {
      bytes = omega (arith, l.bytes, r.bytes, size_of_append a.units (piece.SetField n bean f a.value ∷ tail), sum_by-cons (λ n. n) (cells e.0) (sizes es));
      small = small_append a.units (piece.SetField n bean f a.value ∷ tail) l.small (omega (arith, value_small a.value), r.small);
    }

key_few : (o : Option (ℕ × Kind)) (used : List Used) (k : Key) (made : Kind) (parts : ℕ → List Used → Walked) (total : ℕ) → ((n : ℕ) (used : List Used) → Few total (parts n used)) → Short (1 + total) (used_or o used k made parts)
key_few (Some x) used k made parts total few = record { bytes = omega arith; small = tt }
key_few None used k made parts total few =
    let u : Used = record { key = k; kind = made } in
    let r = few (length used) (used ++ u ∷ []) in
    record { bytes = omega (arith, r.bytes); small = (omega arith, r.small) }

layer : (y : Value-F Each) (used : List Used) → Short (cells_step (map-Value Value ℕ cells (map-Value Each Value (λ e. e.0) y))) (units_step (map-Value Value Listing units (map-Value Each Value (λ e. e.0) y)) used)
layer one_of.Null used = record { bytes = omega arith; small = tt }
layer (one_of.Bool b) used = record { bytes = omega arith; small = tt }
layer (one_of.Long n) used = record { bytes = omega arith; small = tt }
layer (one_of.Str t) used = record { bytes = omega arith; small = tt }
layer (one_of.List id es) used = key_few (place 0 (key.Node id) used) used (key.Node id) kind.List (elements (listings es)) (sum (sizes es)) (elements_few es)
layer (one_of.Bean id bean es) used = key_few (place 0 (key.Node id) used) used (key.Node id) (kind.Bean bean) (λ n. fields (listings es) n bean 0) (sum (sizes es)) (λ n. fields_few es n bean 0)
layer (one_of.Returned p) used = record { bytes = omega arith; small = tt }

shorts : (v : Value) → Shorts v
shorts = ind-Value Shorts (λ x y is. subst (λ z. Shorts (roll-Value z)) is (λ used. rw (fold-roll-Value Listing units_step, fold-roll-Value ℕ cells_step) (layer y used)))

-- ---- calls: 23 bytes for each cell

record AllFew (vs : List Value) (r : ListedAll) : Type 0 where
  pub bytes : units_size r.units + values_size r.values ≤ 20 * sum_by cells vs
  pub small : AreSmall r.units
  pub count : length r.values ≡ length vs

all_few : (vs : List Value) (used : List Used) → AllFew vs (units_all (map units vs) used)
all_few [] used = record { bytes = omega arith; small = tt; count = refl }
all_few (v ∷ vs) used =
    let a = units v used in
    let l = shorts v used in
    let r = all_few vs a.used in
    let tail = units_all (map units vs) a.used in
    record {
      bytes = omega (arith, l.bytes, r.bytes, size_of_append a.units tail.units, sum_by-cons cells v vs);
      small = small_append a.units tail.units l.small r.small;
      count = omega (arith, r.count);
    }

record RecorderFew (l : Listed) : Type 0 where
  pub bytes : units_size l.units ≤ 10
  pub small : AreSmall l.units

recorder_few : (o : Option (ℕ × Kind)) (used : List Used) (k : Key) (made : Kind) → RecorderFew (used_or o used k made (λ _ used. (used, [])))
recorder_few (Some x) used k made = record { bytes = omega arith; small = tt }
recorder_few None used k made = record { bytes = omega arith; small = (omega arith, tt) }

call_size : (n r m : ℕ) (values : List Arg) (step j : ℕ) (keeps : Bool) → unit_size (piece.CallOf n r m values (kept_under step j keeps)) ≤ 13 + values_size values
call_size n r m values step j true = omega arith
call_size n r m values step j false = omega arith

pub record Total (size : ℕ) (ps : List Piece) : Type 0 where
  pub bytes : units_size ps ≤ 23 * size
  pub small : AreSmall ps

call_total : (step j : ℕ) (c : Call) (used : List Used) → length c.args ≤ 8 → Total (1 + sum_by cells c.args) (call_units step j c used).1
call_total step j c used few =
    let me = recorder_units c.recorder used in
    let f = recorder_few (place 0 (key.Recorder c.recorder) used) used (key.Recorder c.recorder) (kind.Recorder c.recorder) in
    let args = units_all (map units c.args) me.used in
    let g = all_few c.args me.used in
    let p = piece.CallOf (number_of me.value) c.recorder c.method args.values (kept_under step j c.keeps) in
    let one : unit_size p ≤ 13 + values_size args.values = call_size (number_of me.value) c.recorder c.method args.values step j c.keeps in
    let fits : unit_size p ≤ 69 = omega (arith, one, values_small args.values, g.count, few) in
    record {
      bytes = omega (arith, f.bytes, g.bytes, one, size_of_append me.units (args.units ++ p ∷ []), size_of_append args.units (p ∷ []));
      small = small_append me.units (args.units ++ p ∷ []) f.small (small_append args.units (p ∷ []) g.small (fits, tt));
    }

pub calls_total : (step j : ℕ) (cs : List Call) (used : List Used) → AreShort cs → Total (cells_of cs) (calls_units step j cs used).1
calls_total step j [] used h = record { bytes = omega arith; small = tt }
calls_total step j (c ∷ cs) used h =
    let a = call_units step j c used in
    let f = call_total step j c used h.0 in
    let g = calls_total step (j + 1) cs a.0 h.1 in
    let tail = (calls_units step (j + 1) cs a.0).1 in
    record {
      bytes = omega (arith, f.bytes, g.bytes, size_of_append a.1 tail, sum_by-cons (λ (d : Call). 1 + sum_by cells d.args) c cs);
      small = small_append a.1 tail f.small g.small;
    }

-- ---- the sizes are those of the code

module _ (names : Names) (class : List ℕ) where
  value_is : (a : Arg) → ops_size (value_code names class a) ≡ value_size a
  value_is arg.Null = refl
  value_is (arg.Bool true) = refl
  value_is (arg.Bool false) = refl
  value_is (arg.Long n) = refl
  value_is (arg.Str t) = refl
  value_is (arg.Kept k) = refl
  value_is (arg.Made n k) = refl

  values_are : (xs : List Arg) → ops_size (flat_map (value_code names class) xs) ≡ values_size xs
  values_are [] = refl
  values_are (a ∷ xs) = omega (arith, size_append [] (value_code names class a) (flat_map (value_code names class) xs), value_is a, values_are xs)

  call_is : (n r m : ℕ) (xs : List Arg) (rest : List Op) → ops_size (call_code names class n r m xs rest) ≡ 6 + values_size xs + ops_size rest
  call_is n r m xs rest = omega (arith, size_append [] (flat_map (value_code names class) xs) (Naming op.Invokevirtual (recorder_method names r m) ∷ rest), values_are xs)

  unit_is : (p : Piece) → ops_size (unit_code names class p) ≡ unit_size p
  unit_is (piece.Make n k) = refl
  unit_is (piece.SetElement n a) = omega (arith, size_append [] (value_code names class a) (Naming op.Invokevirtual Rattle.value_literals.specs.Code.list_add ∷ Plain op.Pop ∷ []), value_is a)
  unit_is (piece.SetField n b f a) = omega (arith, size_append [] (value_code names class a) (Naming op.Putfield (Rattle.value_literals.specs.Code.bean_field names b f) ∷ []), value_is a)
  unit_is (piece.CallOf n r m xs None) = omega (arith, call_is n r m xs (Plain op.Pop ∷ []))
  unit_is (piece.CallOf n r m xs (Some k)) = omega (arith, call_is n r m xs (Naming op.Invokevirtual Rattle.value_literals.specs.Code.put_value ∷ []))

  units_are : (ps : List Piece) → ops_size (flat_map (unit_code names class) ps) ≡ units_size ps
  units_are [] = refl
  units_are (p ∷ ps) = omega (arith, size_append [] (unit_code names class p) (flat_map (unit_code names class) ps), unit_is p, units_are ps)

  taken_small : (n : ℕ) (ps : List Piece) → AreSmall ps → units_size (take n ps) ≤ 69 * n
  taken_small zero ps h = omega arith
  taken_small (suc n) [] h = omega arith
  taken_small (suc n) (p ∷ ps) h = omega (arith, h.0, taken_small n ps h.1)

  dropped_small : (n : ℕ) (ps : List Piece) → AreSmall ps → AreSmall (drop n ps)
  dropped_small zero ps h = h
  dropped_small (suc n) [] h = tt
  dropped_small (suc n) (p ∷ ps) h = dropped_small n ps h.1

  -- a part's code
  pub part_small : (ps : List Piece) (j : ℕ) → AreSmall ps → ops_size (part_code names class (part ps j)) ≤ 13801
  part_small ps j h =
      omega (arith, size_append [] (flat_map (unit_code names class) (part ps j)) (Plain op.Return ∷ []), units_are (part ps j), taken_small 200 (drop (200 * j) ps) (dropped_small (200 * j) ps h))
