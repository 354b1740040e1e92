-- Maps from the names of all that is declared to their places, and the numbers of places. This project's own.
use Rattle.std.specs.Prelude.{◌≡◌, ℕ, List, map, Option, Some, None, nat_lt, if◌then◌else◌}
use Rattle.std.specs.HashMap.{HashMap, get_by_text}
use Rattle.std.specs.List.{AllZip}
use Rattle.std.specs.Prelude.{String}
use Rattle.item_types.specs.declared.decl.BeanDecl.{BeanDecl}
use Rattle.item_types.specs.declared.decl.ItemDecl.{ItemDecl}
use Rattle.item_types.specs.declared.decl.MethodSig.{MethodSig}
use Rattle.item_types.specs.declared.decl.Names.{Names}
use Rattle.item_types.specs.declared.decl.RecorderDecl.{RecorderDecl}
use Rattle.syntax_tree.specs.Undeclared.{no_number}
use Rattle.name_directory.specs.declared.register.Register.{Register}
use Rattle.name_index.specs.Place.{place}

-- the map has the first place of each of the names, and no other text
abbrev pub HasPlaces : {Y S : Type 0} → HashMap (String Y) ℕ S → List (List ℕ) → Type 0
HasPlaces places names = (text : List ℕ) → get_by_text places text ≡ place names text

abbrev pub method_names : RecorderDecl → List (List ℕ)
method_names r = map (λ (m : MethodSig). m.name) r.methods

-- the places of each recorder's methods
abbrev pub AreMethods : {Y S : Type 0} → List (HashMap (String Y) ℕ S) → List RecorderDecl → Type 0
AreMethods all recorders = AllZip (λ places r. HasPlaces places (method_names r)) all recorders

-- the register is of what is declared
pub record IsRegister (names : Names) (register : Register) : Type 0 where
  pub items : HasPlaces register.items (map (λ (x : ItemDecl). x.name) names.items)
  pub beans : HasPlaces register.beans (map (λ (x : BeanDecl). x.name) names.beans)
  pub recorders : HasPlaces register.recorders (map (λ (x : RecorderDecl). x.name) names.recorders)
  pub methods : AreMethods register.methods names.recorders

-- the number of a place; none has the last number
abbrev pub number_at : Option ℕ → ℕ
number_at None = no_number
number_at (Some n) = if nat_lt n no_number then n else no_number
