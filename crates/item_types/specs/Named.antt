-- Values beside the names that their beans are declared by.
use Rattle.std.specs.Prelude.{ℕ, ℤ, Bool, true, false, cond, ◌&&◌, ◌==◌, List, [], ◌∷◌, length, Option, Some, None, slice_get, position}
use Rattle.std.specs.List.{list_all}
use Rattle.std.specs.Str.{bytes_eq}
use Rattle.item_types.specs.declared.decl.BeanDecl.{BeanDecl}
use Rattle.item_types.specs.declared.decl.MethodSig.{MethodSig}
use Rattle.item_types.specs.declared.decl.Names.{Names}
use Rattle.item_types.specs.declared.decl.RecorderDecl.{RecorderDecl}
use Rattle.item_types.specs.declared.value.Value.{Value, out-Value}
use Rattle.item_types.specs.declared.value.Value.TheOpen.{Value-F}
use Rattle.item_types.specs.declared.value.Value.TheOpen as one
use Rattle.item_types.specs.declared.value.Value.TheFolds.{fold-Value}

-- there is such a bean, and it has that many fields
abbrev pub has_fields : Option BeanDecl → ℕ → Bool
has_fields None count = false
has_fields (Some decl) count = length decl.fields == count

abbrev pub fits_step : Names → Value-F Bool → Bool
fits_step names one.Null = true
fits_step names (one.Bool b) = true
fits_step names (one.Long n) = true
fits_step names (one.Str t) = true
fits_step names (one.List id parts) = list_all (λ p. p) parts
fits_step names (one.Bean id bean parts) = has_fields (slice_get names.beans bean) (length parts) && list_all (λ p. p) parts
fits_step names (one.Returned p) = true

-- each bean in it is declared, and has a value for each field
abbrev pub fits : Names → Value → Bool
fits names = fold-Value Bool (fits_step names)

-- the value of the first field of that name
abbrev pub part_of : List ℕ → List (List ℕ) → List Value → Option Value
part_of field [] parts = None
part_of field (name ∷ names) [] = None
part_of field (name ∷ names) (part ∷ parts) = cond (bytes_eq name field) (Some part) (part_of field names parts)

abbrev pub fields_of : Option BeanDecl → List (List ℕ)
fields_of None = []
fields_of (Some decl) = decl.fields

abbrev pub bean_name : Option BeanDecl → List ℕ
bean_name None = []
bean_name (Some decl) = decl.name

abbrev pub recorder_fields : Option RecorderDecl → List (List ℕ)
recorder_fields None = []
recorder_fields (Some decl) = decl.fields

abbrev pub recorder_statics : Option RecorderDecl → List (List ℕ)
recorder_statics None = []
recorder_statics (Some decl) = decl.statics

abbrev pub recorder_methods : Option RecorderDecl → List MethodSig
recorder_methods None = []
recorder_methods (Some decl) = decl.methods

abbrev pub method_params : Option MethodSig → List (List ℕ)
method_params None = []
method_params (Some sig) = sig.params

-- the place of the first of these names that is this one
abbrev pub place_of : List ℕ → List (List ℕ) → Option ℕ
place_of name names = position (λ n. bytes_eq n name) names

-- the place of a static among those of its recorder
abbrev pub static_place : Names → ℕ → List ℕ → Option ℕ
static_place names recorder name = place_of name (recorder_statics (slice_get names.recorders recorder))

abbrev pub long_of : Value-F Value → Option ℤ
long_of one.Null = None
long_of (one.Bool b) = None
long_of (one.Long n) = Some n
long_of (one.Str t) = None
long_of (one.List id parts) = None
long_of (one.Bean id bean parts) = None
long_of (one.Returned p) = None

abbrev pub long_in : Option Value → Option ℤ
long_in None = None
long_in (Some v) = long_of (out-Value v)

abbrev pub key_step : Names → List ℕ → Value-F Value → Option ℤ
key_step names field one.Null = None
key_step names field (one.Bool b) = None
key_step names field (one.Long n) = None
key_step names field (one.Str t) = None
key_step names field (one.List id parts) = None
key_step names field (one.Bean id bean parts) = long_in (part_of field (fields_of (slice_get names.beans bean)) parts)
key_step names field (one.Returned p) = None

-- the number in that field of a bean
abbrev pub key : Names → List ℕ → Value → Option ℤ
key names field v = key_step names field (out-Value v)
