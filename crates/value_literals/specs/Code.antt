-- The instructions of units, with what they name.
use Rattle.std.specs.Prelude.{◌≡◌, ℕ, ◌+◌, max, Bool, true, false, cond, List, [], ◌∷◌, ◌++◌, length, map, Option, Some, None, slice_get, codes}
use Rattle.std.specs.List.{flat_map}
use Rattle.std.specs.Fmt.{decimal}
use Rattle.item_types.specs.Named.{fields_of, bean_name}
use Rattle.item_types.specs.declared.decl.Names.{Names}
use Rattle.item_types.specs.declared.decl.MethodSig.{MethodSig}
use Rattle.item_types.specs.declared.decl.RecorderDecl.{RecorderDecl}
use Rattle.class_pool.specs.declared.shown.Shown.{Shown}
use Rattle.class_pool.specs.declared.shown.Shown.TheVariants as shown
use Rattle.class_code.specs.declared.opcode.Opcode.{Opcode}
use Rattle.class_code.specs.declared.opcode.Opcode.TheVariants as op
use Rattle.recording_units.specs.declared.types.Kind.{Kind}
use Rattle.recording_units.specs.declared.types.Kind.TheVariants as kind
use Rattle.recording_units.specs.declared.types.Kept.{Kept}
use Rattle.recording_units.specs.declared.types.Arg.{Arg}
use Rattle.recording_units.specs.declared.types.Arg.TheVariants as arg
use Rattle.recording_units.specs.declared.types.Piece.{Piece}
use Rattle.recording_units.specs.declared.types.Piece.TheVariants as piece
use Rattle.value_literals.specs.declared.op.Op.{Op}
use Rattle.value_literals.specs.declared.op.Op.TheVariants.{Plain, Naming}

-- ---- names

abbrev pub object : List ℕ
object = codes "Ljava/lang/Object;"

abbrev pub list_class : List ℕ
list_class = codes "java/util/ArrayList"

abbrev pub context_class : List ℕ
context_class = codes "io/quarkus/runtime/StartupContext"

abbrev pub init_name : List ℕ
init_name = codes "<init>"

abbrev pub no_arguments : List ℕ
no_arguments = codes "()V"

abbrev pub recorder_name : Option RecorderDecl → List ℕ
recorder_name None = []
recorder_name (Some r) = r.name

abbrev pub methods_of : Option RecorderDecl → List MethodSig
methods_of None = []
methods_of (Some r) = r.methods

abbrev pub method_name : Option MethodSig → List ℕ
method_name None = []
method_name (Some m) = m.name

abbrev pub params_of : Option MethodSig → List (List ℕ)
params_of None = []
params_of (Some m) = m.params

abbrev pub text_or : Option (List ℕ) → List ℕ
text_or None = []
text_or (Some t) = t

abbrev pub kind_class : Names → Kind → List ℕ
kind_class names kind.List = list_class
kind_class names (kind.Bean b) = codes "bean/" ++ bean_name (slice_get names.beans b)
kind_class names (kind.Recorder r) = codes "rec/" ++ recorder_name (slice_get names.recorders r)

abbrev pub of_class : List ℕ → List ℕ
of_class c = codes "L" ++ (c ++ codes ";")

abbrev pub objects : List (List ℕ) → List ℕ
objects params = flat_map (λ p. object) params

abbrev pub method_descriptor : List (List ℕ) → List ℕ
method_descriptor params = codes "(" ++ (objects params ++ codes ")Ljava/lang/Object;")

abbrev pub field_name : Names → ℕ → ℕ → List ℕ
field_name names b f = text_or (slice_get (fields_of (slice_get names.beans b)) f)

abbrev pub kept_key : Kept → List ℕ
kept_key k = codes "proxy$" ++ (decimal k.step ++ (codes "$" ++ decimal k.call))

abbrev pub number_name : ℕ → List ℕ
number_name n = codes "n$" ++ decimal n

-- ---- what is named

abbrev pub number_field : Names → List ℕ → ℕ → Kind → Shown
number_field names class n k = shown.Field class (number_name n) (of_class (kind_class names k))

abbrev pub init_of : List ℕ → Shown
init_of c = shown.Method c init_name no_arguments

abbrev pub boolean_value_of : Shown
boolean_value_of = shown.Method (codes "java/lang/Boolean") (codes "valueOf") (codes "(Z)Ljava/lang/Boolean;")

abbrev pub long_value_of : Shown
long_value_of = shown.Method (codes "java/lang/Long") (codes "valueOf") (codes "(J)Ljava/lang/Long;")

abbrev pub list_add : Shown
list_add = shown.Method list_class (codes "add") (codes "(Ljava/lang/Object;)Z")

abbrev pub put_value : Shown
put_value = shown.Method context_class (codes "putValue") (codes "(Ljava/lang/String;Ljava/lang/Object;)V")

abbrev pub get_value : Shown
get_value = shown.Method context_class (codes "getValue") (codes "(Ljava/lang/String;)Ljava/lang/Object;")

abbrev pub bean_field : Names → ℕ → ℕ → Shown
bean_field names b f = shown.Field (kind_class names (kind.Bean b)) (field_name names b f) object

abbrev pub sig_of : Option RecorderDecl → ℕ → Option MethodSig
sig_of r m = slice_get (methods_of r) m

abbrev pub method_of : Option RecorderDecl → Option MethodSig → Shown
method_of r m = shown.Method (codes "rec/" ++ recorder_name r) (method_name m) (method_descriptor (params_of m))

abbrev pub recorder_method : Names → ℕ → ℕ → Shown
recorder_method names r m = method_of (slice_get names.recorders r) (sig_of (slice_get names.recorders r) m)

-- ---- code

abbrev pub value_code : Names → List ℕ → Arg → List Op
value_code names class arg.Null = Plain op.AconstNull ∷ []
value_code names class (arg.Bool b) = Plain (cond b op.Iconst1 op.Iconst0) ∷ Naming op.Invokestatic boolean_value_of ∷ []
value_code names class (arg.Long n) = Naming op.Ldc2W (shown.Long n) ∷ Naming op.Invokestatic long_value_of ∷ []
value_code names class (arg.Str t) = Naming op.LdcW (shown.Str t) ∷ []
value_code names class (arg.Kept k) = Plain op.Aload0 ∷ Naming op.LdcW (shown.Str (kept_key k)) ∷ Naming op.Invokevirtual get_value ∷ []
value_code names class (arg.Made n k) = Naming op.Getstatic (number_field names class n k) ∷ []

abbrev pub call_code : Names → List ℕ → ℕ → ℕ → ℕ → List Arg → List Op → List Op
call_code names class n r m args rest =
    Naming op.Getstatic (number_field names class n (kind.Recorder r)) ∷ (flat_map (value_code names class) args ++ Naming op.Invokevirtual (recorder_method names r m) ∷ rest)

abbrev pub unit_code : Names → List ℕ → Piece → List Op
unit_code names class (piece.Make n k) =
    Naming op.New (shown.Class (kind_class names k)) ∷ Plain op.Dup ∷ Naming op.Invokespecial (init_of (kind_class names k)) ∷ Naming op.Putstatic (number_field names class n k) ∷ []
unit_code names class (piece.SetElement n a) =
    Naming op.Getstatic (number_field names class n kind.List) ∷ (value_code names class a ++ Naming op.Invokevirtual list_add ∷ Plain op.Pop ∷ [])
unit_code names class (piece.SetField n b f a) =
    Naming op.Getstatic (number_field names class n (kind.Bean b)) ∷ (value_code names class a ++ Naming op.Putfield (bean_field names b f) ∷ [])
unit_code names class (piece.CallOf n r m args None) = call_code names class n r m args (Plain op.Pop ∷ [])
unit_code names class (piece.CallOf n r m args (Some k)) =
    Plain op.Aload0 ∷ Naming op.LdcW (shown.Str (kept_key k)) ∷ call_code names class n r m args (Naming op.Invokevirtual put_value ∷ [])

-- ---- depths

abbrev pub value_depth : Arg → ℕ
value_depth (arg.Long n) = 2
value_depth (arg.Kept k) = 2
value_depth _ = 1

abbrev pub args_depth : ℕ → List Arg → ℕ
args_depth i [] = i
args_depth i (a ∷ rest) = max (i + value_depth a) (args_depth (i + 1) rest)

abbrev pub unit_depth : Piece → ℕ
unit_depth (piece.Make n k) = 2
unit_depth (piece.SetElement n a) = 1 + value_depth a
unit_depth (piece.SetField n b f a) = 1 + value_depth a
unit_depth (piece.CallOf n r m args None) = args_depth 1 args
unit_depth (piece.CallOf n r m args (Some k)) = args_depth 3 args

abbrev pub units_depth : List Piece → ℕ
units_depth [] = 0
units_depth (u ∷ us) = max (unit_depth u) (units_depth us)
