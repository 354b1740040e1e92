-- The first wrong name of an expression, by its forms. This project's own.
use Rattle.std.specs.Prelude.{ℕ, ◌-◌, Bool, true, false, not, ◌==◌, List, [], ◌∷◌, ◌++◌, map, take, drop, slice_get}
use Rattle.item_types.specs.Named.{fields_of}
use Rattle.syntax_tree.specs.declared.tree.Link.{Link}
use Rattle.syntax_tree.specs.declared.tree.Expr.{Expr, fold-Expr}
use Rattle.syntax_tree.specs.declared.tree.Expr.TheOpen.{Expr-F}
use Rattle.syntax_tree.specs.declared.tree.Expr.TheOpen as one
use Rattle.lang_names.specs.Checked.{Checked, right, later, known, fitting, and_also}
use Rattle.syntax_tree.specs.Undeclared.{no_number}
use Rattle.syntax_tree.specs.Known.{Known, contains, consumed, kind_is, is_simple, is_several, all_in}

-- of an expression: the number of its first token, whether it is `self`, and the test of its names where some are in scope
pub record Told : Type 0 where
  pub first : ℕ
  pub me : Bool
  pub check : List (List ℕ) → Checked

abbrev pub told : ℕ → (List (List ℕ) → Checked) → Told
told at check = record { first = at; me = false; check = check }

-- an item that is declared and consumed
abbrev pub taken_right : Known → ℕ → ℕ → Checked
taken_right k at item = and_also (known (not (item == no_number)) (later at 1)) (fitting (consumed k.consumes item) (later at 1))

-- `get T`: an item that is consumed and is simple
abbrev pub get_right : Known → ℕ → ℕ → Checked
get_right k at item = and_also (taken_right k at item) (fitting (kind_is is_simple (slice_get k.names.items item)) (later at 1))

-- `all T`: an item that is consumed and is multi or ordered
abbrev pub all_right : Known → ℕ → ℕ → Checked
all_right k at item = and_also (taken_right k at item) (fitting (kind_is is_several (slice_get k.names.items item)) (later at 1))

-- `new B{..}` with these fields, in written order: a bean, of which no field is left out
abbrev pub new_right : Known → ℕ → ℕ → List (List ℕ) → Checked
new_right k at bean names = and_also (known (not (bean == no_number)) (later at 1)) (fitting (all_in (fields_of (slice_get k.names.beans bean)) names) (later at 1))

-- a field's name is one of the bean's, and doesn't stand before; it stands two tokens before its value
abbrev pub name_right : List (List ℕ) → List (List ℕ) → List ℕ → ℕ → Checked
name_right declared before f at = and_also (known (contains declared f) (at - 2)) (fitting (not (contains before f)) (at - 2))

-- the fields of a bean, each with its name and the names of its value
abbrev pub fields_right : List (List ℕ) → List (List ℕ) → List (List ℕ × Told) → List (List ℕ) → Checked
fields_right declared before [] scope = right
fields_right declared before (f ∷ fs) scope = and_also (and_also (name_right declared before f.0 f.1.first) (f.1.check scope)) (fields_right declared (before ++ f.0 ∷ []) fs scope)

-- `new B{..}` with the names of its fields' values
abbrev pub bean_right : Known → ℕ → ℕ → List (List ℕ × Told) → List (List ℕ) → Checked
bean_right k at bean fs scope = and_also (new_right k at bean (map (λ f. f.0) fs)) (fields_right (fields_of (slice_get k.names.beans bean)) [] fs scope)

-- the first field behind `self` is one of the recorder's
abbrev pub link_right : Known → Bool → List Link → Checked
link_right k true (l ∷ ls) = known (contains k.fields l.field) (later l.dot 1)
link_right k _ _ = right

abbrev pub all_checked : List Told → List (List ℕ) → Checked
all_checked [] scope = right
all_checked (t ∷ ts) scope = and_also (t.check scope) (all_checked ts scope)

abbrev pub first_part : List Told → ℕ
first_part [] = 0
first_part (t ∷ ts) = t.first

abbrev pub told_step : Known → Expr-F Told → Told
told_step k (one.Null at) = told at (λ s. right)
told_step k (one.Bool at v) = told at (λ s. right)
told_step k (one.Long at v) = told at (λ s. right)
told_step k (one.Str at v) = told at (λ s. right)
told_step k (one.Name at x) = told at (λ s. known (contains s x) at)
told_step k (one.Get at item) = told at (λ s. get_right k at item)
told_step k (one.All at item) = told at (λ s. all_right k at item)
told_step k (one.New at bean fs) = told at (bean_right k at bean fs)
told_step k (one.ListOf at parts) = told at (all_checked parts)
told_step k (one.Fields inner links) = told inner.first (λ s. and_also (inner.check s) (link_right k inner.me links))
told_step k (one.Len at inner) = told at inner.check
told_step k (one.Not at inner) = told at inner.check
told_step k (one.Sum parts signs) = told (first_part parts) (all_checked parts)
told_step k (one.Both parts signs) = told (first_part parts) (all_checked parts)
told_step k (one.Equal left sign right) = told left.first (λ s. and_also (left.check s) (right.check s))
told_step k (one.Less left sign right) = told left.first (λ s. and_also (left.check s) (right.check s))
told_step k (one.Paren at inner) = told at inner.check
told_step k (one.Me at) = record { first = at; me = true; check = λ s. right }
told_step k (one.StaticOf at f) = told at (λ s. known (contains k.statics f) (later at 2))

abbrev pub told_of : Known → Expr → Told
told_of k = fold-Expr Told (told_step k)

-- the first wrong name of an expression, where these names are in scope
abbrev pub expr_right : Known → List (List ℕ) → Expr → Checked
expr_right k scope x = (told_of k x).check scope

-- fields with the tests of their values
abbrev pub with_told : Known → List (List ℕ × Expr) → List (List ℕ × Told)
with_told k fs = map (λ (f : List ℕ × Expr). (f.0, told_of k f.1)) fs

abbrev pub first_names : List (List ℕ × Expr) → List (List ℕ)
first_names fs = map (λ (f : List ℕ × Expr). f.0) fs

-- the test of the fields behind so many of them
abbrev pub left_of : Known → List (List ℕ) → List (List ℕ × Expr) → List (List ℕ) → ℕ → Checked
left_of k declared fs scope i = fields_right declared (first_names (take i fs)) (with_told k (drop i fs)) scope
