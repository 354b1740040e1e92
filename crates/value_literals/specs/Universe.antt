-- All that the class of a recording may enter.
use Rattle.std.specs.Prelude.{◌≡◌, ℕ, zero, suc, ◌+◌, List, [], ◌∷◌, ◌++◌, length, Option, Some, None, slice_get, codes}
use Rattle.std.specs.List.{flat_map}
use Rattle.item_types.specs.Named.{bean_name}
use Rattle.item_types.specs.declared.decl.Names.{Names}
use Rattle.item_types.specs.declared.decl.BeanDecl.{BeanDecl}
use Rattle.item_types.specs.declared.decl.RecorderDecl.{RecorderDecl}
use Rattle.item_types.specs.declared.decl.MethodSig.{MethodSig}
use Rattle.class_pool.specs.declared.shown.Shown.{Shown}
use Rattle.class_pool.specs.declared.shown.Shown.TheVariants as shown
use Rattle.class_pool.specs.Growth.{with_parts}
use Rattle.recording_units.specs.declared.types.Used.{Used}
use Rattle.recording_units.specs.declared.types.Kind.TheVariants as kind
use Rattle.recording_units.specs.declared.types.Arg.{Arg}
use Rattle.recording_units.specs.declared.types.Arg.TheVariants as arg
use Rattle.recording_units.specs.declared.types.Piece.{Piece}
use Rattle.recording_units.specs.declared.types.Piece.TheVariants as piece
use Rattle.recording_units.specs.Units.{Walked}
use Rattle.value_literals.specs.Code.{object, list_class, context_class, init_name, no_arguments, recorder_name, methods_of, method_name, params_of, kind_class, of_class, method_descriptor, field_name, kept_key, number_name, number_field, init_of, boolean_value_of, long_value_of, list_add, put_value, get_value, bean_field, method_of}
use Rattle.value_literals.specs.Emitted.{run_descriptor, part_name, part_of, parts_count}

abbrev pub fixed_ones : List ℕ → List Shown
fixed_ones class =
    boolean_value_of ∷ long_value_of ∷ list_add ∷ put_value ∷ get_value ∷ shown.NameType init_name no_arguments ∷ shown.Class class ∷ shown.Text object ∷ shown.Text run_descriptor ∷ shown.Text (codes "Code") ∷ shown.Text (codes "run") ∷ []

abbrev pub fixed : List ℕ → List Shown
fixed class = flat_map with_parts (fixed_ones class)

-- a class that is made: its class, its descriptor, its initializer
abbrev pub of_made : List ℕ → List Shown
of_made c = shown.Text c ∷ shown.Class c ∷ shown.Text (of_class c) ∷ init_of c ∷ []

-- of none, and of each
abbrev pub options : {X : Type 0} → (Option X → List Shown) → List X → List Shown
options f xs = f None ++ flat_map (λ x. f (Some x)) xs

abbrev pub of_sig : Option RecorderDecl → Option MethodSig → List Shown
of_sig r m =
    shown.Text (method_name m) ∷ shown.Text (method_descriptor (params_of m)) ∷ shown.NameType (method_name m) (method_descriptor (params_of m)) ∷ method_of r m ∷ []

abbrev pub of_recorder : Option RecorderDecl → List Shown
of_recorder r = of_made (codes "rec/" ++ recorder_name r) ++ options (of_sig r) (methods_of r)

abbrev pub of_bean : Option BeanDecl → List Shown
of_bean b = of_made (codes "bean/" ++ bean_name b)

abbrev pub of_names : Names → List Shown
of_names names = of_made list_class ++ (options of_bean names.beans ++ options of_recorder names.recorders)

abbrev pub of_used : Names → List ℕ → ℕ → List Used → List Shown
of_used names class n [] = []
of_used names class n (u ∷ us) =
    shown.Text (number_name n) ∷ shown.NameType (number_name n) (of_class (kind_class names u.kind)) ∷ number_field names class n u.kind ∷ of_used names class (n + 1) us

abbrev pub of_value : Arg → List Shown
of_value (arg.Long n) = shown.Long n ∷ []
of_value (arg.Str t) = shown.Text t ∷ shown.Str t ∷ []
of_value (arg.Kept k) = shown.Text (kept_key k) ∷ shown.Str (kept_key k) ∷ []
of_value _ = []

abbrev pub of_unit : Names → Piece → List Shown
of_unit names (piece.Make n k) = []
of_unit names (piece.SetElement n a) = of_value a
of_unit names (piece.SetField n b f a) =
    shown.Text (field_name names b f) ∷ shown.NameType (field_name names b f) object ∷ bean_field names b f ∷ of_value a
of_unit names (piece.CallOf n r m args None) = flat_map of_value args
of_unit names (piece.CallOf n r m args (Some k)) = shown.Text (kept_key k) ∷ shown.Str (kept_key k) ∷ flat_map of_value args

abbrev pub of_parts : List ℕ → ℕ → ℕ → List Shown
of_parts class j zero = []
of_parts class j (suc n) = shown.Text (part_name j) ∷ shown.NameType (part_name j) run_descriptor ∷ part_of class j ∷ of_parts class (j + 1) n

abbrev pub universe : Names → List ℕ → Walked → List Shown
universe names class w =
    fixed class ++ (of_names names ++ (of_used names class 0 w.0 ++ (flat_map (of_unit names) w.1 ++ of_parts class 0 (parts_count w.1))))
