use Rattle.std.proofs.Common.{◌≡◌, ◌∙◌, ◌∷◌, ◌++◌, [], length, refl, subst, sym, ap, arith}
use Rattle.item_store.specs.Kept.{values_of}
use Rattle.item_types.specs.Bounds.{IsBounded}
use Rattle.item_types.specs.declared.value.Value.{Value}
use Rattle.build_state.specs.Rooms.{IsKeyed}
use Rattle.build_state.proofs.Moves.{put_call}
use Rattle.build_state.proofs.Calls.{put_has, made_few}
use Rattle.build_state.proofs.state.BuildState.put.Goals as goal

pub invariant_of-self : goal.invariant_of-self
invariant_of-self c =
    let has = put_has _ _ c.self.view_is _ _ _ _ _ c.self.invariant c.args.step c.requires.range c.index_mut-slot.result.now c.index_mut-slot.ensures.value _ _ c.in-Some.ensures.some in
    put_call _ _ c.self.view_is _ _ _ _ _ _ _ refl c.self.invariant c.args.step c.requires.range c.requires.putting c.requires.going
    c.index_mut-slot.result.now (c.in-Some.twin.item, c.in-Some.twin.value) _ _ c.index_mut-slot.ensures.value c.in-Some.ensures.some refl has.0 c.add.ensures
    (c.put.ensures.values ∙ ap (λ v. values_of c.self.inside.store c.in-Some.twin.item ++ v ∷ []) c.in-Some.ensures.twin) (omega (arith, c.put.ensures.spare, has.1)) c.put.ensures.others

pub overflow_add-slot : goal.overflow_add-slot
overflow_add-slot c =
    let few = made_few _ _ c.self.view_is _ _ _ _ _ c.self.invariant c.args.step c.requires.range c.requires.putting c.index_mut-slot.result.now c.index_mut-slot.ensures.value in
    let long : length c.events-events.result.now ≡ length c.self.inside.history.events = ap length c.events-events.ensures.value in
    omega (arith, few, long)

pub put-requires-clause-key : goal.put-requires-clause-key
put-requires-clause-key c =
    let has = put_has _ _ c.self.view_is _ _ _ _ _ c.self.invariant c.args.step c.requires.range c.index_mut-slot.result.now c.index_mut-slot.ensures.value (c.in-Some.twin.item, c.in-Some.twin.value) c.next.new.self c.in-Some.ensures.some in
    let P : Value → Type 0 = λ v. IsKeyed c.self.inside.store.names (c.in-Some.twin.item, v) in
    subst P (sym c.in-Some.ensures.twin) has.2

pub put-requires-clause-bounded : goal.put-requires-clause-bounded
put-requires-clause-bounded c =
    let has = put_has _ _ c.self.view_is _ _ _ _ _ c.self.invariant c.args.step c.requires.range c.index_mut-slot.result.now c.index_mut-slot.ensures.value (c.in-Some.twin.item, c.in-Some.twin.value) c.next.new.self c.in-Some.ensures.some in
    subst IsBounded (sym c.in-Some.ensures.twin) has.3

pub add-requires-clause-bounded : goal.add-requires-clause-bounded
add-requires-clause-bounded c =
    let has = put_has _ _ c.self.view_is _ _ _ _ _ c.self.invariant c.args.step c.requires.range c.index_mut-slot.result.now c.index_mut-slot.ensures.value (c.in-Some.twin.item, c.in-Some.twin.value) c.next.new.self c.in-Some.ensures.some in
    has.3
