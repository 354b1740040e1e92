-- Which classes a list of files loads to, and with which fault it is refused (JVMS 4; the order of the list is this project's own).
use Rattle.std.specs.Prelude.{◌≡◌, ℕ, ◌≤◌, Bool, true, false, nat_lt, ◌&&◌, ◌||◌, not, List, length, take, slice_get, cond, Option, Some, Result, Ok, Err, codes, eqb}
use Rattle.std.specs.List.{All, list_any, starts_with, position_from}
use Rattle.std.specs.Str.{bytes_eq}
use Rattle.name_index.specs.Place.{has}
use Rattle.class_pool.specs.Entries.{entry_at}
use Rattle.class_pool.specs.Showing.{is_text, is_class_of}
use Rattle.class_pool.specs.declared.class.Class.{Class}
use Rattle.class_pool.specs.declared.class.Member.{Member}
use Rattle.class_pool.specs.declared.fault.ClassFault.{ClassFault}
use Rattle.class_pool.specs.declared.fault.ClassFault.TheVariants as fault
use Rattle.class_grammar.specs.Grammar.{Spells, IsStuck}
use Rattle.class_grammar.specs.Layout.{IsBytes}
use Rattle.class_grammar.specs.Valid.{IsValid}
use Rattle.startup_classes.specs.declared.load_fault.LoadFault.{LoadFault}
use Rattle.startup_classes.specs.declared.load_fault.LoadFault.TheVariants as load

-- a file of more bytes than a class may have
abbrev pub is_large : List ℕ → Bool
is_large bytes = nat_lt 2_000_000 (length bytes)

-- the first place of one, from 0
abbrev pub first_large : List (List ℕ) → Option ℕ
first_large files = position_from is_large 0 files

-- the class that is started
abbrev pub main_name : List ℕ
main_name = codes "app/Main"

-- a name of the application's packages
abbrev pub in_packages : List ℕ → Bool
in_packages name = starts_with eqb name (codes "app/") || starts_with eqb name (codes "steps/")

-- the class has this name, which is one of the application's packages
abbrev pub is_named : List ℕ → Class → Bool
is_named name c = is_class_of c.pool name (entry_at c.pool c.this) && in_packages name

-- the class has an initializer (JVMS 2.9)
abbrev pub has_initializer : Class → Bool
has_initializer c = list_any (λ (m : Member). is_text (codes "<clinit>") (entry_at c.pool m.name)) c.methods

-- only the class that is started may have one
abbrev pub may_initialize : List ℕ → Class → Bool
may_initialize name c = bytes_eq name main_name || not (has_initializer c)

-- the class at a place of the list: its bytes spell it, it has the listed name, which no earlier place has, and it may have the initializer that it has
pub record IsClassOf (earlier : List (List ℕ)) (name bytes : List ℕ) (c : Class) : Type 0 where
  pub spelled : Spells bytes c
  pub named : is_named name c ≡ true
  pub once : has earlier name ≡ false
  pub initializer : may_initialize name c ≡ true

-- the fault at a place: each earlier check of the list holds, and this one fails
pub data IsFaultAt (earlier : List (List ℕ)) (at : ℕ) (name bytes : List ℕ) (f : LoadFault) : Type 0 where
  no_class : (e : ClassFault) → IsStuck bytes e → f ≡ load.Class at e → IsFaultAt earlier at name bytes f
  other_name : (c : Class) → Spells bytes c → is_named name c ≡ false → f ≡ load.Name at → IsFaultAt earlier at name bytes f
  twice : (c : Class) → Spells bytes c → is_named name c ≡ true → has earlier name ≡ true → f ≡ load.Twice at → IsFaultAt earlier at name bytes f
  initializer : (c : Class) → Spells bytes c → is_named name c ≡ true → has earlier name ≡ false → may_initialize name c ≡ false → f ≡ load.Initializer at → IsFaultAt earlier at name bytes f

-- the classes of the first files
abbrev pub AreFirst : List (List ℕ) → List (List ℕ) → List Class → Type 0
AreFirst listed files cs = (i : ℕ) (name bytes : List ℕ) (c : Class) → slice_get listed i ≡ Some name → slice_get files i ≡ Some bytes → slice_get cs i ≡ Some c → IsClassOf (take i listed) name bytes c

-- the files load to these classes
pub record Loads (listed files : List (List ℕ)) (cs : List Class) : Type 0 where
  pub count : length cs ≡ length listed
  pub first : AreFirst listed files cs
  pub main : has listed main_name ≡ true

-- a fault stops them at the place behind these classes
pub record StopsAt (listed files : List (List ℕ)) (cs : List Class) (f : LoadFault) : Type 0 where
  pub first : AreFirst listed files cs
  pub name : List ℕ
  pub bytes : List ℕ
  pub name_there : slice_get listed (length cs) ≡ Some name
  pub bytes_there : slice_get files (length cs) ≡ Some bytes
  pub fault : IsFaultAt (take (length cs) listed) (length cs) name bytes f

-- the files are refused with this fault
pub data IsRefused (listed files : List (List ℕ)) (f : LoadFault) : Type 0 where
  in_file : (cs : List Class) → StopsAt listed files cs f → IsRefused listed files f
  no_main : (cs : List Class) → length cs ≡ length listed → AreFirst listed files cs → has listed main_name ≡ false → f ≡ load.NoMain → IsRefused listed files f

-- what a call told is this, or want of memory
abbrev pub Told : Result (List Class) LoadFault → Result (List Class) LoadFault → Type 0
Told outcome (Ok cs) = outcome ≡ Ok cs
Told outcome (Err e) = (e ≡ load.Memory → ⊥) → outcome ≡ Err e

-- ---- what is kept of them

-- at most 2,049 classes, each valid
pub record AreKept (cs : List Class) : Type 0 where
  pub few : length cs ≤ 2049
  pub valid : All IsValid cs

-- the files are bytes
abbrev pub AreBytes : ℕ → List (List ℕ) → Type 0
AreBytes n files = (i : ℕ) (bytes : List ℕ) → i ≤ n → slice_get files i ≡ Some bytes → IsBytes bytes

-- what a class's fault is to the list; want of memory is none of it
abbrev pub class_fault : ℕ → ClassFault → LoadFault
class_fault at fault.Memory = load.Memory
class_fault at e = load.Class at e

-- it tells no want of memory inside another fault
abbrev pub HoldsNone : LoadFault → Type 0
HoldsNone (load.Class at fault.Memory) = ⊥
HoldsNone _ = Unit {0}

-- a class that was read and passes these tests: its name, an earlier place of that name, its initializer
abbrev pub checked_by : Bool → Bool → Bool → ℕ → Class → Result Class LoadFault
checked_by named again fits at c = cond (not named) (Err (load.Name at)) (cond again (Err (load.Twice at)) (cond (not fits) (Err (load.Initializer at)) (Ok c)))

-- a class that was read, checked against the list
abbrev pub checked : List (List ℕ) → ℕ → List ℕ → Class → Result Class LoadFault
checked earlier at name c = checked_by (is_named name c) (has earlier name) (may_initialize name c) at c

-- all files were loaded, and are bytes
pub record AllLoaded (listed files : List (List ℕ)) (cs : List Class) : Type 0 where
  pub count : length cs ≡ length listed
  pub first : AreFirst listed files cs
  pub kept : AreKept cs
  pub bytes : AreBytes (length cs) files

-- a fault stopped them, and the files up to it are bytes
pub record Stopped (listed files : List (List ℕ)) (f : LoadFault) : Type 0 where
  pub found : List Class
  pub at : StopsAt listed files found f
  pub bytes : AreBytes (length found) files
