-- The kind of an item by its number.
use Rattle.std.proofs.Common.{◌≡◌, ℕ, zero, suc, ◌<◌, ◌≤◌, List, [], ◌∷◌, length, get_or, refl, sym, ◌∙◌, ap, arith}
use Rattle.std.specs.Prelude.{slice_get}
use Rattle.item_types.specs.declared.decl.ItemDecl.{ItemDecl}
use Rattle.item_types.specs.declared.decl.ItemKind.TheVariants.{Empty}
use Rattle.value_order.specs.Found.{kind_in}

kind_at : (items : List ItemDecl) (i : ℕ) (d : ItemDecl) → i < length items → kind_in (slice_get items i) ≡ (get_or items i d).kind
kind_at [] i d h = absurd (omega arith)
kind_at (x ∷ items) zero d h = refl
kind_at (x ∷ items) (suc i) d h = kind_at items i d (omega arith)

pub kind_past : (items : List ItemDecl) (i : ℕ) → length items ≤ i → kind_in (slice_get items i) ≡ Empty
kind_past [] i h = refl
kind_past (x ∷ items) zero h = absurd (omega arith)
kind_past (x ∷ items) (suc i) h = kind_past items i (omega arith)

pub kind_here : (items : List ItemDecl) (i : ℕ) (decl : ItemDecl) → i < length items → decl ≡ get_or items i decl → kind_in (slice_get items i) ≡ decl.kind
kind_here items i decl h e = kind_at items i decl h ∙ ap (λ d. d.kind) (sym e)
