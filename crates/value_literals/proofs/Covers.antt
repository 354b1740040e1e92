-- The universe covers all that is named.
use Rattle.std.proofs.Common.{◌≡◌, ℕ, zero, suc, ◌+◌, ◌*◌, ◌<◌, ◌≤◌, Bool, true, false, cond, List, [], ◌∷◌, ◌++◌, length, take, drop, Option, Some, None, refl, sym, ap, subst, ◌∙◌, inl, inr, ◌⊎◌, arith}
use Rattle.std.specs.Prelude.{slice_get, codes}
use Rattle.std.specs.List.{flat_map}
use Rattle.item_types.specs.Named.{bean_name}
use Rattle.item_types.specs.declared.decl.Names.{Names}
use Rattle.item_types.specs.declared.decl.RecorderDecl.{RecorderDecl}
use Rattle.item_types.specs.declared.decl.MethodSig.{MethodSig}
use Rattle.class_pool.specs.declared.shown.Shown.{Shown}
use Rattle.class_pool.specs.declared.shown.Shown.TheVariants as shown
use Rattle.class_code.specs.declared.opcode.Opcode.TheVariants as op
use Rattle.class_pool.specs.Growth.{Among, Covered, with_parts}
use Rattle.recording_units.specs.declared.types.Used.{Used}
use Rattle.recording_units.specs.declared.types.Kind.{Kind}
use Rattle.recording_units.specs.declared.types.Kind.TheVariants as kind
use Rattle.recording_units.specs.declared.types.Arg.{Arg}
use Rattle.recording_units.specs.declared.types.Arg.TheVariants as arg
use Rattle.recording_units.specs.declared.types.Piece.{Piece}
use Rattle.recording_units.specs.declared.types.Piece.TheVariants as piece
use Rattle.value_literals.specs.declared.op.Op.{Op}
use Rattle.value_literals.specs.declared.op.Op.TheVariants.{Plain, Naming}
use Rattle.recording_units.specs.Units.{Walked}
use Rattle.value_literals.specs.Code.{object, list_class, context_class, init_name, no_arguments, recorder_name, methods_of, sig_of, kind_class, of_class, number_name, number_field, init_of, kept_key, boolean_value_of, long_value_of, list_add, put_value, get_value, bean_field, field_name, method_of, recorder_method, value_code, call_code, unit_code}
use Rattle.value_literals.specs.Emitted.{run_descriptor, part_name, part_of, parts_count, run_code, part, part_code}
use Rattle.value_literals.specs.Universe.{fixed, fixed_ones, of_bean, of_made, options, of_sig, of_recorder, of_names, of_used, of_value, of_unit, of_parts, universe}
use Rattle.recording_units.proofs.CallerLemmas.{IsAt, ArgAt, ArgsAt, PieceAt, PiecesAt}
use Rattle.value_literals.proofs.Filling.{OpIn, OpsIn, ops_append}

abbrev pub Sub : List Shown → List Shown → Type 0
Sub xs us = (v : Shown) → Among v xs → Among v us

pub in_left : (xs ys : List Shown) (v : Shown) → Among v xs → Among v (xs ++ ys)
in_left [] ys v i = absurd i
in_left (x ∷ xs) ys v (inl e) = inl e
in_left (x ∷ xs) ys v (inr i) = inr (in_left xs ys v i)

pub in_right : (xs ys : List Shown) (v : Shown) → Among v ys → Among v (xs ++ ys)
in_right [] ys v i = i
in_right (x ∷ xs) ys v i = inr (in_right xs ys v i)

pub sub_left : (xs ys us : List Shown) → Sub (xs ++ ys) us → Sub xs us
sub_left xs ys us h v i = h v (in_left xs ys v i)

pub sub_right : (xs ys us : List Shown) → Sub (xs ++ ys) us → Sub ys us
sub_right xs ys us h v i = h v (in_right xs ys v i)

in_options : {X : Type 0} (f : Option X → List Shown) (xs : List X) (n : ℕ) (v : Shown) → Among v (f (slice_get xs n)) → Among v (options f xs)
in_options f [] zero v i = in_left (f None) [] v i
in_options f [] (suc n) v i = in_left (f None) [] v i
in_options f (x ∷ xs) zero v i = in_right (f None) (f (Some x) ++ flat_map (λ y. f (Some y)) xs) v (in_left (f (Some x)) (flat_map (λ y. f (Some y)) xs) v i)
in_options f (x ∷ xs) (suc n) v i = skip (f None) (f (Some x)) (flat_map (λ y. f (Some y)) xs) (in_options f xs n v i)
  where
    skip : (a b c : List Shown) → Among v (a ++ c) → Among v (a ++ (b ++ c))
    skip [] b c i = in_right b c v i
    skip (y ∷ a) b c (inl e) = inl e
    skip (y ∷ a) b c (inr i) = inr (skip a b c i)

-- ---- of the names

made_in : (names : Names) (k : Kind) → Sub (of_made (kind_class names k)) (of_names names)
made_in names kind.List v i = in_left (of_made list_class) (options of_bean names.beans ++ options of_recorder names.recorders) v i
made_in names (kind.Bean b) v i =
    in_right (of_made list_class) (options of_bean names.beans ++ options of_recorder names.recorders) v (in_left (options of_bean names.beans) (options of_recorder names.recorders) v (in_options of_bean names.beans b v i))
made_in names (kind.Recorder r) v i =
    let o = slice_get names.recorders r in
    in_right (of_made list_class) (options of_bean names.beans ++ options of_recorder names.recorders) v (in_right (options of_bean names.beans) (options of_recorder names.recorders) v
    (in_options of_recorder names.recorders r v (in_left (of_made (codes "rec/" ++ recorder_name o)) (options (of_sig o) (methods_of o)) v i)))

sig_in : (names : Names) (r m : ℕ) → Sub (of_sig (slice_get names.recorders r) (sig_of (slice_get names.recorders r) m)) (of_names names)
sig_in names r m v i =
    let o = slice_get names.recorders r in
    in_right (of_made list_class) (options of_bean names.beans ++ options of_recorder names.recorders) v (in_right (options of_bean names.beans) (options of_recorder names.recorders) v
    (in_options of_recorder names.recorders r v (in_right (of_made (codes "rec/" ++ recorder_name o)) (options (of_sig o) (methods_of o)) v (in_options (of_sig o) (methods_of o) m v i))))

-- ---- of the table

abbrev of_number : Names → List ℕ → ℕ → Kind → List Shown
of_number names class n k = shown.Text (number_name n) ∷ shown.NameType (number_name n) (of_class (kind_class names k)) ∷ number_field names class n k ∷ []

used_at : (names : Names) (class : List ℕ) (i : ℕ) (used : List Used) (n : ℕ) (u : Used) → slice_get used n ≡ Some u → Sub (of_number names class (i + n) u.kind) (of_used names class i used)
used_at names class i [] zero u e v h = absurd cc
used_at names class i [] (suc n) u e v h = absurd cc
used_at names class i (x ∷ used) zero u e v h =
    let same : x ≡ u = cc in
    let at : i + 0 ≡ i = omega arith in
    front (subst (λ w. Among v (of_number names class i w.kind)) (sym same) (subst (λ j. Among v (of_number names class j u.kind)) at h))
  where
    front : Among v (of_number names class i x.kind) → Among v (of_used names class i (x ∷ used))
    front (inl e) = inl e
    front (inr (inl e)) = inr (inl e)
    front (inr (inr (inl e))) = inr (inr (inl e))
    front (inr (inr (inr e))) = absurd e
used_at names class i (x ∷ used) (suc n) u e v h =
    let at : i + suc n ≡ i + 1 + n = omega arith in
    inr (inr (inr (used_at names class (i + 1) used n u e v (subst (λ j. Among v (of_number names class j u.kind)) at h))))

pub number_in : (names : Names) (class : List ℕ) (used : List Used) (n : ℕ) (k : Kind) → IsAt used n k → Sub (of_number names class n k) (of_used names class 0 used)
number_in names class used n k h v i =
    used_at names class 0 used n h.0 h.1 v (subst (λ j. Among v (of_number names class j h.0.kind)) (omega arith) (subst (λ w. Among v (of_number names class n w)) (sym h.2) i))

-- ---- the fixed ones

closed : (us : List Shown) (w : Shown) → Sub (with_parts w) us → Covered us w
closed us (shown.Text t) h = h _ (inl refl)
closed us (shown.Integer n) h = h _ (inl refl)
closed us (shown.Long n) h = h _ (inl refl)
closed us (shown.Class t) h = (h _ (inl refl), h _ (inr (inl refl)))
closed us (shown.Str t) h = (h _ (inl refl), h _ (inr (inl refl)))
closed us (shown.NameType a d) h = (h _ (inl refl), h _ (inr (inl refl)), h _ (inr (inr (inl refl))))
closed us (shown.Field c a d) h = ((h _ (inl refl), h _ (inr (inl refl))), (h _ (inr (inr (inl refl))), h _ (inr (inr (inr (inl refl)))), h _ (inr (inr (inr (inr (inl refl)))))), h _ (inr (inr (inr (inr (inr (inl refl)))))))
closed us (shown.Method c a d) h = ((h _ (inl refl), h _ (inr (inl refl))), (h _ (inr (inr (inl refl))), h _ (inr (inr (inr (inl refl)))), h _ (inr (inr (inr (inr (inl refl)))))), h _ (inr (inr (inr (inr (inr (inl refl)))))))

closure_in : (ws : List Shown) (w : Shown) → Among w ws → Sub (with_parts w) (flat_map with_parts ws)
closure_in [] w i v h = absurd i
closure_in (x ∷ ws) w (inl same) v h = in_left (with_parts x) (flat_map with_parts ws) v (subst (λ y. Among v (with_parts y)) (sym same) h)
closure_in (x ∷ ws) w (inr i) v h = in_right (with_parts x) (flat_map with_parts ws) v (closure_in ws w i v h)

-- ---- what a unit names, where the parts of the universe are among us

module _ (names : Names) (class : List ℕ) (used : List Used) (us : List Shown) (of_fixed : Sub (fixed class) us) (of_all : Sub (of_names names) us) (of_table : Sub (of_used names class 0 used) us) where
  pub fixed_in : (w : Shown) → Among w (fixed_ones class) → Covered us w
  fixed_in w i = closed us w (λ v h. of_fixed v (closure_in (fixed_ones class) w i v h))

  pub class_ins : Among (shown.Text class) us × Among (shown.Class class) us
  class_ins = fixed_in (shown.Class class) (inr (inr (inr (inr (inr (inr (inl refl)))))))

  init_ins : Among (shown.Text init_name) us × Among (shown.Text no_arguments) us × Among (shown.NameType init_name no_arguments) us
  init_ins = fixed_in (shown.NameType init_name no_arguments) (inr (inr (inr (inr (inr (inl refl))))))

  object_in : Among (shown.Text object) us
  object_in = fixed_in (shown.Text object) (inr (inr (inr (inr (inr (inr (inr (inl refl))))))))

  pub run_descriptor_in : Among (shown.Text run_descriptor) us
  run_descriptor_in = fixed_in (shown.Text run_descriptor) (inr (inr (inr (inr (inr (inr (inr (inr (inl refl)))))))))

  made_ins : (k : Kind) → Among (shown.Text (kind_class names k)) us × Among (shown.Class (kind_class names k)) us
  made_ins k = (of_all _ (made_in names k _ (inl refl)), of_all _ (made_in names k _ (inr (inl refl))))

  pub descriptor_in : (k : Kind) → Among (shown.Text (of_class (kind_class names k))) us
  descriptor_in k = of_all _ (made_in names k _ (inr (inr (inl refl))))

  init_in : (k : Kind) → Covered us (init_of (kind_class names k))
  init_in k = (made_ins k, init_ins, of_all _ (made_in names k _ (inr (inr (inr (inl refl))))))

  field_in : (n : ℕ) (k : Kind) → IsAt used n k → Covered us (number_field names class n k)
  field_in n k h =
      (class_ins, (of_table _ (number_in names class used n k h _ (inl refl)), descriptor_in k, of_table _ (number_in names class used n k h _ (inr (inl refl)))), of_table _ (number_in names class used n k h _ (inr (inr (inl refl)))))

  method_in : (r m : ℕ) → Covered us (recorder_method names r m)
  method_in r m =
      (made_ins (kind.Recorder r), (of_all _ (sig_in names r m _ (inl refl)), of_all _ (sig_in names r m _ (inr (inl refl))), of_all _ (sig_in names r m _ (inr (inr (inl refl))))), of_all _ (sig_in names r m _ (inr (inr (inr (inl refl))))))

  value_in : (a : Arg) → ArgAt used a → Sub (of_value a) us → OpsIn us (value_code names class a)
  value_in arg.Null h s = (tt, tt)
  value_in (arg.Bool b) h s = (tt, (fixed_in boolean_value_of (inl refl), tt))
  value_in (arg.Long n) h s = (s _ (inl refl), (fixed_in long_value_of (inr (inl refl)), tt))
  value_in (arg.Str t) h s = ((s _ (inl refl), s _ (inr (inl refl))), tt)
  value_in (arg.Kept k) h s = (tt, ((s _ (inl refl), s _ (inr (inl refl))), (fixed_in get_value (inr (inr (inr (inr (inl refl))))), tt)))
  value_in (arg.Made n k) h s = (field_in n k h, tt)

  values_in : (xs : List Arg) → ArgsAt used xs → Sub (flat_map of_value xs) us → OpsIn us (flat_map (value_code names class) xs)
  values_in [] h s = tt
  values_in (a ∷ xs) h s =
      ops_append us (value_code names class a) (flat_map (value_code names class) xs) (value_in a h.0 (sub_left (of_value a) (flat_map of_value xs) us s)) (values_in xs h.1 (sub_right (of_value a) (flat_map of_value xs) us s))

  call_in : (n r m : ℕ) (xs : List Arg) (rest : List Op) → IsAt used n (kind.Recorder r) → ArgsAt used xs → Sub (flat_map of_value xs) us → OpsIn us rest → OpsIn us (call_code names class n r m xs rest)
  call_in n r m xs rest h k s o =
      (field_in n (kind.Recorder r) h, ops_append us (flat_map (value_code names class) xs) (Naming op.Invokevirtual (recorder_method names r m) ∷ rest) (values_in xs k s) (method_in r m, o))

  pub unit_in : (p : Piece) → PieceAt used p → Sub (of_unit names p) us → OpsIn us (unit_code names class p)
  unit_in (piece.Make n k) h s = (made_ins k, (tt, (init_in k, (field_in n k h, tt))))
  unit_in (piece.SetElement n a) h s =
      (field_in n kind.List h.0, ops_append us (value_code names class a) (Naming op.Invokevirtual list_add ∷ Plain op.Pop ∷ []) (value_in a h.1 s) (fixed_in list_add (inr (inr (inl refl))), (tt, tt)))
  unit_in (piece.SetField n b f a) h s = (
    field_in n (kind.Bean b) h.0,
    ops_append us (value_code names class a) (Naming op.Putfield (bean_field names b f) ∷ []) (value_in a h.1 (λ v i. s v (inr (inr (inr i)))))
        ((made_ins (kind.Bean b), (s _ (inl refl), object_in, s _ (inr (inl refl))), s _ (inr (inr (inl refl)))), tt),
  )
  unit_in (piece.CallOf n r m xs None) h s = call_in n r m xs (Plain op.Pop ∷ []) h.0 h.1 s (tt, tt)
  unit_in (piece.CallOf n r m xs (Some k)) h s =
      (tt, ((s _ (inl refl), s _ (inr (inl refl))), call_in n r m xs (Naming op.Invokevirtual put_value ∷ []) h.0 h.1 (λ v i. s v (inr (inr i))) (fixed_in put_value (inr (inr (inr (inl refl)))), tt)))

  units_in : (ps : List Piece) → PiecesAt used ps → Sub (flat_map (of_unit names) ps) us → OpsIn us (flat_map (unit_code names class) ps)
  units_in [] h s = tt
  units_in (p ∷ ps) h s =
      ops_append us (unit_code names class p) (flat_map (unit_code names class) ps) (unit_in p h.0 (sub_left (of_unit names p) (flat_map (of_unit names) ps) us s)) (units_in ps h.1 (sub_right (of_unit names p) (flat_map (of_unit names) ps) us s))
