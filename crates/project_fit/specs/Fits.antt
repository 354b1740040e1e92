-- Which names, steps and final items fit each other: names are right and unique, numbers are in range, and the limits are kept. This project's own.
use Rattle.std.specs.Prelude.{ℕ, ◌+◌, List, [], ◌∷◌, ◌++◌, length, map, Bool, true, not, ◌&&◌, ◌==◌, nat_le, nat_lt, codes}
use Rattle.std.specs.List.{list_all, list_any}
use Rattle.item_types.specs.declared.decl.BeanDecl.{BeanDecl}
use Rattle.item_types.specs.declared.decl.ItemDecl.{ItemDecl}
use Rattle.item_types.specs.declared.decl.ItemKind.{ItemKind}
use Rattle.item_types.specs.declared.decl.ItemKind.TheVariants.{Simple, Multi, Ordered, Empty}
use Rattle.item_types.specs.declared.decl.MethodSig.{MethodSig}
use Rattle.item_types.specs.declared.decl.Names.{Names}
use Rattle.item_types.specs.declared.decl.RecorderDecl.{RecorderDecl}
use Rattle.item_types.specs.declared.step.Consume.{Consume}
use Rattle.item_types.specs.declared.step.Produce.{Produce}
use Rattle.item_types.specs.declared.step.StepDecl.{StepDecl}
use Rattle.ext_draft.specs.Names.{is_name}
use Rattle.name_index.specs.Place.{has}

-- texts none of which stands there twice or is one of those before
abbrev pub none_twice : List (List ℕ) → List (List ℕ) → Bool
none_twice before [] = true
none_twice before (text ∷ texts) = not (has before text) && none_twice (before ++ text ∷ []) texts

-- at most so many names, none twice
abbrev pub are_names : ℕ → List (List ℕ) → Bool
are_names limit texts = nat_le (length texts) limit && (list_all is_name texts && none_twice [] texts)

-- the field by which an ordered item is sorted
abbrev pub kind_fits : ItemKind → Bool
kind_fits Simple = true
kind_fits Multi = true
kind_fits (Ordered by) = is_name by
kind_fits Empty = true

abbrev pub item_fits : ItemDecl → Bool
item_fits i = kind_fits i.kind

abbrev pub bean_fits : BeanDecl → Bool
bean_fits b = are_names 16 b.fields

abbrev pub method_fits : MethodSig → Bool
method_fits m = are_names 8 m.params

abbrev pub method_names : List MethodSig → List (List ℕ)
method_names methods = map (λ (m : MethodSig). m.name) methods

abbrev pub recorder_fits : RecorderDecl → Bool
recorder_fits r =
    are_names 16 r.fields && (are_names 16 r.statics && (are_names 1024 (method_names r.methods) && list_all method_fits r.methods))

-- how many methods recorders have
abbrev pub method_total : List RecorderDecl → ℕ
method_total [] = 0
method_total (r ∷ rs) = length r.methods + method_total rs

abbrev pub items_fit : List ItemDecl → Bool
items_fit items = are_names 2048 (map (λ (i : ItemDecl). i.name) items) && list_all item_fits items

abbrev pub beans_fit : List BeanDecl → Bool
beans_fit beans = are_names 1024 (map (λ (b : BeanDecl). b.name) beans) && list_all bean_fits beans

abbrev pub recorders_fit : List RecorderDecl → Bool
recorders_fit recorders =
    are_names 256 (map (λ (r : RecorderDecl). r.name) recorders) && (list_all recorder_fits recorders && nat_le (method_total recorders) 1024)

-- what the extensions declare
unfoldable pub names_fit : Names → Bool
names_fit names = items_fit names.items && (beans_fit names.beans && recorders_fit names.recorders)

-- numbers none of which stands there twice or is one of those before
abbrev pub no_number_twice : List ℕ → List ℕ → Bool
no_number_twice before [] = true
no_number_twice before (n ∷ ns) = not (list_any (λ m. m == n) before) && no_number_twice (before ++ n ∷ []) ns

-- at most so many numbers below that size, none twice
abbrev pub numbers_fit : ℕ → ℕ → List ℕ → Bool
numbers_fit size limit numbers = nat_le (length numbers) limit && (list_all (λ n. nat_lt n size) numbers && no_number_twice [] numbers)

-- the items that a step names, among so many
unfoldable pub step_numbers_fit : ℕ → StepDecl → Bool
step_numbers_fit size s =
    numbers_fit size 64 (map (λ (c : Consume). c.item) s.consumes) && numbers_fit size 64 (map (λ (p : Produce). p.item) s.produces)

abbrev pub step_fits : ℕ → StepDecl → Bool
step_fits size s = is_name s.ext && (is_name s.name && step_numbers_fit size s)

-- a step's full name: its extension's name, a dot and its own
abbrev pub full_name : StepDecl → List ℕ
full_name s = s.ext ++ (codes "." ++ s.name)

-- no two steps have one full name, so no two of one extension have one name
unfoldable pub steps_fit : ℕ → List StepDecl → Bool
steps_fit size steps = nat_le (length steps) 2048 && (list_all (step_fits size) steps && none_twice [] (map full_name steps))

abbrev pub fits : Names → List StepDecl → List ℕ → Bool
fits names steps finals = names_fit names && (steps_fit (length names.items) steps && numbers_fit (length names.items) 2048 finals)
