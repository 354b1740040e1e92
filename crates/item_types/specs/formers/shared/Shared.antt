-- How a `Shared` holds its elements, so that a type may lead back to itself through one: a value of it
-- is the list of the values in it, kept in a `Vec` behind the pointer of an `Arc`.
use mathlib.Core.Path.{◌≡◌, refl, sym}
use mathlib.Core.List.{List, []}
use mathlib.Core.Former.{Former, this, list, via, const, pair, children}
use base.Stored.{code_map, gnil}
use base.Fml.{ftrue}
use denote.RattleType.{RattleType}
use denote.Memory.{part_of}
use denote.RawPtr.{Ptr}
use denote.Sharing.{nothing}
use denote.HoleLaws.{Alike}
use denote.HolePlaces.{Recodes, struct_places, laid, one_value}
use denote.Hole.Carrier.{listed, list-listed}
use denote.Hole.Fix.{over}
use denote.Param.Weighed.{Weighed, w_list}
use denote.Model.Placed.{view_places}
use Rattle.std.specs.formers.vec.Vec as vec
use Rattle.std.specs.contracts.vec.Vec as heap_vec
use Rattle.std.specs.declared.sync.Arc.{Arc}
use Rattle.std.specs.contracts.sync.Arc as heap_arc
use Rattle.std.specs.declared.alloc.Global.{Global}
use Rattle.std.specs.contracts.alloc.Global as heap
use Rattle.std.specs.contracts.impls.GlobalAllocator.TheImpl.{ghosts}
use Rattle.item_types.specs.declared.shared.Shared.TheInside.{Inside}
use Rattle.item_types.specs.declared.shared.Shared.TheView.{view, invariant}
use Rattle.item_types.specs.contracts.shared.Shared as shared
use Rattle.item_types.specs.contracts.shared.Shared.TheInside as inside

abbrev pub the_former : Former {0} → Former {0}
the_former inner = list inner

abbrev pub the_weighed : {inner : Former {0}} → Weighed inner → Weighed (the_former inner)
the_weighed weighed = w_list weighed

abbrev pub the_empty : List ⊥
the_empty = []

abbrev pub the_items : (X : Type 0) → List X → List X
the_items X elements = elements

pub the_items_listed : (X : Type 0) (elements : List X) → listed _ (children (the_former this) X elements) ≡ the_items X elements
the_items_listed X elements = list-listed X elements

-- the one field: a pointer to a `Vec` on the heap
abbrev field : Former {0}
field = via (pair (const Ptr) (vec.the_former this Global)) Inside (λ X s. (s.items.ptr, s.items.value))
    (λ X held. record { items = record { ptr = held.0; value = held.1 } }) (λ X s. refl) (λ X held. refl)

-- the same place on the heap, with another value
abbrev holding : {X Y : Type 0} → Arc X Global → Y → Arc Y Global
holding b value = record { ptr = b.ptr; value = value }

abbrev in_arc : RattleType → RattleType
in_arc R = heap_arc.the_row R heap.the_row ghosts

module _ (R S : RattleType) (h : R.Denot → S.Denot) where
  arc_places : Alike R S h → Alike (in_arc R) (in_arc S) (λ b. holding b (h b.value))
  unfolding part_of
  arc_places alike = record {
    mir_same = λ i. (in_arc (one_value R (alike.mir_same i) (λ _. ftrue) (λ _ _. nothing) gnil)).mir;
    own_same = λ b i. (in_arc (one_value R (alike.mir_same i) (alike.own_same b.value i) (alike.shr_same b.value i) gnil)).own_val (holding b tt);
    shr_same = λ b i. (in_arc (one_value R (alike.mir_same i) (alike.own_same b.value i) (alike.shr_same b.value i) gnil)).shr_at (holding b tt);
  }

abbrev on_heap : RattleType → RattleType
on_heap R = heap_vec.the_row R heap.the_row ghosts

module _ (R S : RattleType) (h : R.Denot → S.Denot) where
  pub the_places : Alike R S h → Alike (shared.the_row R) (shared.the_row S) ((the_former this).map R.Denot S.Denot h)
  the_places alike =
      let held = laid _ _ _ (arc_places (on_heap R) (on_heap S) (vec.mapped h) (vec.the_places heap.the_row ghosts R S h alike)) in
      let fields = struct_places (inside.the_type R) (inside.the_type S) ((λ b. holding b (vec.mapped h b.value)), tt) _ (λ d. refl) refl (held, tt) in
      view_places field (list this) view (λ X Y k u. refl) (λ X u. refl) R.Denot S.Denot h (shared.the_row R).coded (shared.the_row S).coded
      (invariant R.Denot) (invariant S.Denot) (λ u p q. refl) (λ u p q. refl) (λ u e. tt) (λ u e. tt)
      (over (inside.the_row R)) (over (inside.the_row S)) fields

  pub the_codes_placed : Recodes R S h → Recodes (shared.the_row R) (shared.the_row S) ((the_former this).map R.Denot S.Denot h)
  the_codes_placed recoded elements = sym (code_map R.coded.code S.coded.code h (λ x. sym (recoded x)) elements)
