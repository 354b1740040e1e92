-- What the names of a text may stand for. This project's own.
use Rattle.std.specs.Prelude.{ℕ, Bool, true, false, if◌then◌else◌, ◌==◌, List, [], ◌∷◌, Option, Some, None, is_some, slice_get, length}
use Rattle.std.specs.Str.{bytes_eq}
use Rattle.item_types.specs.declared.step.Consume.{Consume}
use Rattle.item_types.specs.declared.step.Produce.{Produce}
use Rattle.item_types.specs.declared.step.StepDecl.{StepDecl}
use Rattle.item_types.specs.declared.decl.Names.{Names}
use Rattle.item_types.specs.declared.decl.RecorderDecl.{RecorderDecl}
use Rattle.item_types.specs.declared.decl.MethodSig.{MethodSig}
use Rattle.item_types.specs.declared.decl.ItemDecl.{ItemDecl}
use Rattle.item_types.specs.declared.decl.ItemKind.{ItemKind}
use Rattle.item_types.specs.declared.decl.ItemKind.TheVariants.{Simple, Multi, Ordered, Empty}

-- all that is declared; what a step consumes and produces, and whether it records calls; what a recorder has
pub record Known : Type 0 where
  pub names : Names
  pub consumes : List Consume
  pub produces : List Produce
  pub records : Bool
  pub fields : List (List ℕ)
  pub statics : List (List ℕ)

-- in a step's body
abbrev pub of_step : Names → StepDecl → Known
of_step names decl = record { names = names; consumes = decl.consumes; produces = decl.produces; records = is_some decl.phase; fields = []; statics = [] }

abbrev pub of_decl : Names → Option RecorderDecl → Known
of_decl names None = record { names = names; consumes = []; produces = []; records = false; fields = []; statics = [] }
of_decl names (Some d) = record { names = names; consumes = []; produces = []; records = false; fields = d.fields; statics = d.statics }

-- in a method of a recorder
abbrev pub of_recorder : Names → ℕ → Known
of_recorder names recorder = of_decl names (slice_get names.recorders recorder)

abbrev pub contains : List (List ℕ) → List ℕ → Bool
contains [] w = false
contains (x ∷ xs) w = if bytes_eq x w then true else contains xs w

abbrev pub consumed : List Consume → ℕ → Bool
consumed [] item = false
consumed (x ∷ xs) item = if x.item == item then true else consumed xs item

abbrev pub produced : List Produce → ℕ → Bool
produced [] item = false
produced (x ∷ xs) item = if x.item == item then true else produced xs item

abbrev pub kind_is : (ItemKind → Bool) → Option ItemDecl → Bool
kind_is test None = false
kind_is test (Some d) = test d.kind

-- `get` takes simple items, `all` the others that carry values, and `produce` makes all but the empty ones
abbrev pub is_simple : ItemKind → Bool
is_simple Simple = true
is_simple _ = false

abbrev pub is_several : ItemKind → Bool
is_several Multi = true
is_several (Ordered f) = true
is_several _ = false

abbrev pub carries_value : ItemKind → Bool
carries_value Empty = false
carries_value _ = true

-- each of the first names is among the others
abbrev pub all_in : List (List ℕ) → List (List ℕ) → Bool
all_in [] ws = true
all_in (x ∷ xs) ws = if contains ws x then all_in xs ws else false

abbrev pub params_of : Option MethodSig → ℕ
params_of None = 0
params_of (Some m) = length m.params

abbrev pub method_of : Option RecorderDecl → ℕ → Option MethodSig
method_of None m = None
method_of (Some d) m = slice_get d.methods m
