-- A tree may hold a `Boxed` tree: what a `Boxed` holder shows is what it holds, and its one field, a
-- `Box`, says where that lies.
use mathlib.Core.Path.{refl}
use mathlib.Core.Former.{Former, this, const, pair, via}
use base.Stored.{gnil}
use base.Fml.{ftrue}
use denote.RattleType.{RattleType}
use denote.Memory.{part_of}
use denote.RawPtr.{Ptr}
use denote.Sharing.{nothing}
use denote.HoleLaws.{Alike}
use denote.HolePlaces.{Recodes, struct_places, laid, one_value}
use denote.Hole.Fix.{over}
use denote.Param.Weighed.{Weighed}
use denote.Model.Placed.{view_places}
use Rattle.std.specs.declared.boxed.Box.{Box}
use Rattle.std.specs.contracts.boxed.Box as heap_box
use Rattle.std.specs.declared.alloc.Global.{Global}
use Rattle.std.specs.contracts.alloc.Global as heap
use Rattle.std.specs.contracts.impls.GlobalAllocator.TheImpl.{ghosts}
use Rattle.item_types.specs.declared.boxed.Boxed.TheInside.{Inside}
use Rattle.item_types.specs.declared.boxed.Boxed.TheView.{view, invariant}
use Rattle.item_types.specs.contracts.boxed.Boxed as boxed
use Rattle.item_types.specs.contracts.boxed.Boxed.TheInside as inside

abbrev pub the_former : Former {0} → Former {0}
the_former inner = inner

abbrev pub the_weighed : {inner : Former {0}} → Weighed inner → Weighed (the_former inner)
the_weighed weighed = weighed

-- the struct, as its one field: a pointer and its allocator, and the part behind them
abbrev field : Former {0}
field = via (pair (const (Ptr × Global)) this) Inside (λ X b. ((b.part.ptr, b.part.alloc), b.part.value))
    (λ X held. record { part = record { ptr = held.0.0; alloc = held.0.1; value = held.1 } }) (λ X b. refl) (λ X held. refl)

-- the same place on the heap, with another value
abbrev holding : {X Y : Type 0} → Box X Global → Y → Box Y Global
holding b value = record { ptr = b.ptr; alloc = b.alloc; value = value }

abbrev on_heap : RattleType → RattleType
on_heap R = heap_box.the_row R heap.the_row ghosts

module _ (R S : RattleType) (h : R.Denot → S.Denot) where
  box_places : Alike R S h → Alike (on_heap R) (on_heap S) (λ b. holding b (h b.value))
  unfolding part_of
  box_places alike = record {
    mir_same = λ i. (on_heap (one_value R (alike.mir_same i) (λ _. ftrue) (λ _ _. nothing) gnil)).mir;
    own_same = λ b i. (on_heap (one_value R (alike.mir_same i) (alike.own_same b.value i) (alike.shr_same b.value i) gnil)).own_val (holding b tt);
    shr_same = λ b i. (on_heap (one_value R (alike.mir_same i) (alike.own_same b.value i) (alike.shr_same b.value i) gnil)).shr_at (holding b tt);
  }

  pub the_places : Alike R S h → Alike (boxed.the_row R) (boxed.the_row S) ((the_former this).map R.Denot S.Denot h)
  the_places alike =
      let held = laid _ _ _ (box_places alike) in
      let fields = struct_places (inside.the_type R) (inside.the_type S) ((λ b. holding b (h b.value)), tt) _ (λ d. refl) refl (held, tt) in
      view_places field this view (λ X Y k u. refl) (λ X u. refl) R.Denot S.Denot h (boxed.the_row R).coded (boxed.the_row S).coded
      (invariant R.Denot) (invariant S.Denot) (λ u p q. refl) (λ u p q. refl) (λ u e. tt) (λ u e. tt)
      (over (inside.the_row R)) (over (inside.the_row S)) fields

  pub the_codes_placed : Recodes R S h → Recodes (boxed.the_row R) (boxed.the_row S) ((the_former this).map R.Denot S.Denot h)
  the_codes_placed recoded value = recoded value
