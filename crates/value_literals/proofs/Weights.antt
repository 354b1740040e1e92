-- What the units of a recording may enter, counted.
use Rattle.std.proofs.Common.{◌≡◌, ℕ, zero, suc, ◌+◌, ◌*◌, ◌≤◌, Bool, true, false, List, [], ◌∷◌, ◌++◌, length, map, sum, sum_by, Option, Some, None, refl, subst, arith, length-append}
use Rattle.std.specs.List.{flat_map}
use Rattle.std.proofs.lemmas.List.Sums.{sum_by-cons}
use Rattle.item_types.specs.Measure.{cells, cells_step}
use Rattle.item_types.specs.declared.decl.Names.{Names}
use Rattle.item_types.specs.declared.value.Value.{Value, roll-Value, ind-Value, fold-roll-Value}
use Rattle.item_types.specs.declared.value.Value.TheOpen.{Value-F}
use Rattle.item_types.specs.declared.value.Value.TheFolds.{map-Value}
use Rattle.item_types.specs.declared.value.Value.TheOpen as one_of
use Rattle.recorder_proxy.specs.declared.call.Call.{Call}
use Rattle.recorder_proxy.specs.Sizes.{cells_of}
use Rattle.class_pool.specs.declared.shown.Shown.{Shown}
use Rattle.class_pool.specs.Growth.{weight, one, cost}
use Rattle.recording_units.specs.declared.types.Key.{Key}
use Rattle.recording_units.specs.declared.types.Key.TheVariants as key
use Rattle.recording_units.specs.declared.types.Kind.{Kind}
use Rattle.recording_units.specs.declared.types.Kind.TheVariants as kind
use Rattle.recording_units.specs.declared.types.Used.{Used}
use Rattle.recording_units.specs.declared.types.Kept.{Kept}
use Rattle.recording_units.specs.declared.types.Arg.{Arg}
use Rattle.recording_units.specs.declared.types.Arg.TheVariants as arg
use Rattle.recording_units.specs.declared.types.Piece.{Piece}
use Rattle.recording_units.specs.declared.types.Piece.TheVariants as piece
use Rattle.recording_units.specs.Units.{Listed, ListedAll, place, Listing, Walked, elements, fields, used_or, units_step, units, units_all, recorder_units, number_of, kept_under, call_units, calls_units}
use Rattle.value_literals.specs.Universe.{of_value, of_unit}

pub weight_append : (f : List ℕ → ℕ) (k : ℕ) (xs ys : List Shown) → weight f k (xs ++ ys) ≡ weight f k xs + weight f k ys
weight_append f k [] ys = omega arith
weight_append f k (x ∷ xs) ys = omega (arith, weight_append f k xs ys)

abbrev w1 : List Shown → ℕ
w1 xs = weight one 1 xs

module _ (names : Names) where
  abbrev pub units_weight : List Piece → ℕ
  units_weight ps = weight one 1 (flat_map (of_unit names) ps)

  pub units_weight_append : (ps qs : List Piece) → units_weight (ps ++ qs) ≡ units_weight ps + units_weight qs
  units_weight_append [] qs = omega arith
  units_weight_append (p ∷ ps) qs =
      omega (arith, weight_append one 1 (of_unit names p) (flat_map (of_unit names) (ps ++ qs)), weight_append one 1 (of_unit names p) (flat_map (of_unit names) ps), units_weight_append ps qs)

  units_weight_cons : (p : Piece) (ps : List Piece) → units_weight (p ∷ ps) ≡ w1 (of_unit names p) + units_weight ps
  units_weight_cons p ps = weight_append one 1 (of_unit names p) (flat_map (of_unit names) ps)

  -- 6 for each cell; of these 3 are for its place in a bean
  pub record LightBy (size : ℕ) (used : List Used) (l : Listed) : Type 0 where
    pub entries : units_weight l.units + w1 (of_value l.value) + 3 * length l.used + 3 ≤ 6 * size + 3 * length used
    pub count : length l.units + 1 ≤ 2 * size

  abbrev pub Lights : Value → Type 0
  Lights v = (used : List Used) → LightBy (cells v) used (units v used)

  abbrev Each : Type 0
  Each = (v : Value) × Lights v

  abbrev listings : List Each → List Listing
  listings es = map units (map (λ e. e.0) es)

  abbrev sizes : List Each → List ℕ
  sizes es = map cells (map (λ e. e.0) es)

  pub record Few (total : ℕ) (used : List Used) (r : Walked) : Type 0 where
    pub entries : units_weight r.1 + 3 * length r.0 ≤ 6 * total + 3 * length used
    pub count : length r.1 ≤ 2 * total

  elements_few : (es : List Each) (n : ℕ) (used : List Used) → Few (sum (sizes es)) used (elements (listings es) n used)
  elements_few [] n used = record { entries = omega arith; count = omega arith }
  elements_few (e ∷ es) n used =
      let a = units e.0 used in
      let l = e.1 used in
      let r = elements_few es n a.used in
      let tail = (elements (listings es) n a.used).1 in
      record {
        entries = omega (arith, l.entries, r.entries, units_weight_append a.units (piece.SetElement n a.value ∷ tail), units_weight_cons (piece.SetElement n a.value) tail, sum_by-cons (λ n. n) (cells e.0) (sizes es));
        count = omega (arith, l.count, r.count, length-append a.units (piece.SetElement n a.value ∷ tail), sum_by-cons (λ n. n) (cells e.0) (sizes es));
      }

  fields_few : (es : List Each) (n bean f : ℕ) (used : List Used) → Few (sum (sizes es)) used (fields (listings es) n bean f used)
  fields_few [] n bean f used = record { entries = omega arith; count = omega arith }
  fields_few (e ∷ es) n bean f used =
      let a = units e.0 used in
      let l = e.1 used in
      let r = fields_few es n bean (f + 1) a.used in
      let tail = (fields (listings es) n bean (f + 1) a.used).1 in
      record {
        entries = omega (arith, l.entries, r.entries, units_weight_append a.units (piece.SetField n bean f a.value ∷ tail), units_weight_cons (piece.SetField n bean f a.value) tail, sum_by-cons (λ n. n) (cells e.0) (sizes es));
        count = omega (arith, l.count, r.count, length-append a.units (piece.SetField n bean f a.value ∷ tail), sum_by-cons (λ n. n) (cells e.0) (sizes es));
      }

  key_few : (o : Option (ℕ × Kind)) (used : List Used) (k : Key) (made : Kind) (parts : ℕ → List Used → Walked) (total : ℕ) → ((n : ℕ) (used : List Used) → Few total used (parts n used)) → LightBy (1 + total) used (used_or o used k made parts)
  key_few (Some x) used k made parts total few = record { entries = omega arith; count = omega arith }
  key_few None used k made parts total few =
      let u : Used = record { key = k; kind = made } in
      let r = few (length used) (used ++ u ∷ []) in
      record { entries = omega (arith, r.entries, length-append used (u ∷ [])); count = omega (arith, r.count) }

  layer : (y : Value-F Each) (used : List Used) →
      LightBy (cells_step (map-Value Value ℕ cells (map-Value Each Value (λ e. e.0) y))) used (units_step (map-Value Value Listing units (map-Value Each Value (λ e. e.0) y)) used)
  layer one_of.Null used = record { entries = omega arith; count = omega arith }
  layer (one_of.Bool b) used = record { entries = omega arith; count = omega arith }
  layer (one_of.Long n) used = record { entries = omega arith; count = omega arith }
  layer (one_of.Str t) used = record { entries = omega arith; count = omega arith }
  layer (one_of.List id es) used = key_few (place 0 (key.Node id) used) used (key.Node id) kind.List (elements (listings es)) (sum (sizes es)) (elements_few es)
  layer (one_of.Bean id bean es) used = key_few (place 0 (key.Node id) used) used (key.Node id) (kind.Bean bean) (λ n. fields (listings es) n bean 0) (sum (sizes es)) (λ n. fields_few es n bean 0)
  layer (one_of.Returned p) used = record { entries = omega arith; count = omega arith }

  pub lights : (v : Value) → Lights v
  lights = ind-Value Lights (λ x y is. subst (λ z. Lights (roll-Value z)) is (λ used. rw (fold-roll-Value Listing units_step, fold-roll-Value ℕ cells_step) (layer y used)))

  -- ---- calls

  abbrev args_weight : List Arg → ℕ
  args_weight values = w1 (flat_map of_value values)

  record AllFew (total : ℕ) (used : List Used) (r : ListedAll) : Type 0 where
    pub entries : units_weight r.units + args_weight r.values + 3 * length r.used ≤ 6 * total + 3 * length used
    pub count : length r.units ≤ 2 * total

  all_few : (vs : List Value) (used : List Used) → AllFew (sum_by cells vs) used (units_all (map units vs) used)
  all_few [] used = record { entries = omega arith; count = omega arith }
  all_few (v ∷ vs) used =
      let a = units v used in
      let l = lights v used in
      let r = all_few vs a.used in
      let tail = units_all (map units vs) a.used in
      record {
        entries = omega (arith, l.entries, r.entries, units_weight_append a.units tail.units, weight_append one 1 (of_value a.value) (flat_map of_value tail.values), sum_by-cons cells v vs);
        count = omega (arith, l.count, r.count, length-append a.units tail.units, sum_by-cons cells v vs);
      }

  record RecorderFew (used : List Used) (l : Listed) : Type 0 where
    pub entries : units_weight l.units + 3 * length l.used ≤ 3 + 3 * length used
    pub count : length l.units ≤ 1

  recorder_few_by : (o : Option (ℕ × Kind)) (used : List Used) (k : Key) (made : Kind) → RecorderFew used (used_or o used k made (λ _ used. (used, [])))
  recorder_few_by (Some x) used k made = record { entries = omega arith; count = omega arith }
  recorder_few_by None used k made =
      let u : Used = record { key = k; kind = made } in
      record { entries = omega (arith, length-append used (u ∷ [])); count = omega arith }

  call_weight : (n r m : ℕ) (values : List Arg) (step j : ℕ) (keeps : Bool) → w1 (of_unit names (piece.CallOf n r m values (kept_under step j keeps))) ≤ 2 + args_weight values
  call_weight n r m values step j true = omega arith
  call_weight n r m values step j false = omega arith

  call_few : (step j : ℕ) (c : Call) (used : List Used) → Few (1 + sum_by cells c.args) used (call_units step j c used)
  call_few step j c used =
      let me = recorder_units c.recorder used in
      let f = recorder_few_by (place 0 (key.Recorder c.recorder) used) used (key.Recorder c.recorder) (kind.Recorder c.recorder) in
      let args = units_all (map units c.args) me.used in
      let g = all_few c.args me.used in
      let p = piece.CallOf (number_of me.value) c.recorder c.method args.values (kept_under step j c.keeps) in
      record {
        entries = omega (arith, f.entries, g.entries, units_weight_append me.units (args.units ++ p ∷ []), units_weight_append args.units (p ∷ []), units_weight_cons p [], call_weight (number_of me.value) c.recorder c.method args.values step j c.keeps);
        count = omega (arith, f.count, g.count, length-append me.units (args.units ++ p ∷ []), length-append args.units (p ∷ []));
      }

  pub calls_few : (step j : ℕ) (cs : List Call) (used : List Used) → Few (cells_of cs) used (calls_units step j cs used)
  calls_few step j [] used = record { entries = omega arith; count = omega arith }
  calls_few step j (c ∷ cs) used =
      let a = call_units step j c used in
      let f = call_few step j c used in
      let g = calls_few step (j + 1) cs a.0 in
      let tail = (calls_units step (j + 1) cs a.0).1 in
      record {
        entries = omega (arith, f.entries, g.entries, units_weight_append a.1 tail, sum_by-cons (λ (d : Call). 1 + sum_by cells d.args) c cs);
        count = omega (arith, f.count, g.count, length-append a.1 tail, sum_by-cons (λ (d : Call). 1 + sum_by cells d.args) c cs);
      }
