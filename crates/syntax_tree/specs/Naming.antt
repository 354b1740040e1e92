-- The numbers that names stand for: places in the lists of declarations. This project's own.
use Rattle.std.specs.Prelude.{ℕ, ◌+◌, if◌then◌else◌, List, [], ◌∷◌, Option, Some, None, slice_get, ◌==◌}
use Rattle.std.specs.Str.{bytes_eq}
use Rattle.item_types.specs.declared.decl.ItemDecl.{ItemDecl}
use Rattle.item_types.specs.declared.decl.BeanDecl.{BeanDecl}
use Rattle.item_types.specs.declared.decl.MethodSig.{MethodSig}
use Rattle.item_types.specs.declared.decl.RecorderDecl.{RecorderDecl}
use Rattle.item_types.specs.declared.decl.Names.{Names}
use Rattle.syntax_tree.specs.Undeclared.{no_number}

-- the place of the first of these that has this name, counted on from a number; none has the last number
abbrev pub place_of : {A : Type 0} → (A → List ℕ) → ℕ → List A → List ℕ → ℕ
place_of name i [] w = no_number
place_of name i (x ∷ xs) w = if i == no_number then no_number else (if bytes_eq (name x) w then i else place_of name (i + 1) xs w)

abbrev pub item_number : Names → List ℕ → ℕ
item_number names w = place_of (λ (x : ItemDecl). x.name) 0 names.items w

abbrev pub bean_number : Names → List ℕ → ℕ
bean_number names w = place_of (λ (x : BeanDecl). x.name) 0 names.beans w

abbrev pub recorder_number : Names → List ℕ → ℕ
recorder_number names w = place_of (λ (x : RecorderDecl). x.name) 0 names.recorders w

abbrev pub methods_by : Option RecorderDecl → List MethodSig
methods_by None = []
methods_by (Some x) = x.methods

-- the number of a recorder's method; where there is no such recorder there is no such method
abbrev pub method_number : Names → List ℕ → List ℕ → ℕ
method_number names r m = place_of (λ (x : MethodSig). x.name) 0 (methods_by (slice_get names.recorders (recorder_number names r))) m
