use Rattle.std.proofs.Common.{◌≡◌, ◌<◌, ℕ, Bool, true, List, [], ◌∷◌, ◌++◌, length, map, set, Option, Some, None, rules, sym, ap, subst, ◌∙◌, arith}
use Rattle.startup_rules.specs.Visits.{refs_of}
use Rattle.startup_rules.specs.Worlds.{parts}
use Rattle.startup_rules.specs.declared.slot.Slot.{Slot}
use Rattle.world_graph.specs.Walks.{fresh_at}
use Rattle.world_graph.proofs.Numbering.{At, at_start, at_end, pend, nows, nows-snoc, weigh, weigh-snoc, unseen-mark, no_slots, no_lists, none_left, fresh_is_unseen, fresh_is_within, next_empty, next_none, next_some}
use Rattle.world_graph.proofs.walk.visited.Goals as goal

pub loop-slots-preserved : goal.loop-slots-preserved
loop-slots-preserved c =
    let os = map parts c.args.objects.now in let roots = refs_of (length c.args.objects.now) c.args.roots.now in let fs = nows c.pop.new.self.items in
    let a = subst (λ (l : List (List Slot)). At os roots c.loop-slots.seen.items c.loop-slots.order.items (pend (length os) l)) (ap nows c.in-Some.ensures.items ∙ nows-snoc c.pop.new.self.items c.in-Some.slots) c.loop-slots.invariant in
    next_empty os roots c.loop-slots.seen.items c.loop-slots.order.items fs c.in-Some.slots.now (no_slots c.in-Some.slots.now c.in_default-split_first.ensures.cases) a

pub loop-slots-smaller : goal.loop-slots-smaller
loop-slots-smaller c = omega (arith, ap weigh (ap nows c.in-Some.ensures.items ∙ nows-snoc c.pop.new.self.items c.in-Some.slots), weigh-snoc (nows c.pop.new.self.items) c.in-Some.slots.now)

pub loop-slots-preserved-in_default-fresh : goal.loop-slots-preserved-in_default-fresh
loop-slots-preserved-in_default-fresh c =
    let os = map parts c.args.objects.now in let roots = refs_of (length c.args.objects.now) c.args.roots.now in let fs = nows c.pop.new.self.items in
    let a = subst (λ (l : List (List Slot)). At os roots c.loop-slots.seen.items c.loop-slots.order.items (pend (length os) l)) (ap nows c.in-Some.ensures.items ∙ nows-snoc c.pop.new.self.items c.in-Some.slots) c.loop-slots.invariant in
    let none = subst (λ (l : List Bool). fresh_at l c.in-Some-split_first.first.now ≡ None) c.as_slice.ensures.value (sym c.fresh.ensures ∙ none_left c.fresh.result c.in_default-fresh.not-Some) in
    subst (λ (l : List (List Slot)). At os roots c.loop-slots.seen.items c.loop-slots.order.items (pend (length os) l)) (sym (ap nows c.in_ok-push-2.ensures.items ∙ nows-snoc c.pop.new.self.items c.in-Some-split_first.others))
    (next_none os roots c.loop-slots.seen.items c.loop-slots.order.items fs c.in-Some.slots.now c.in-Some-split_first.first.now c.in-Some-split_first.others.now c.in-Some-split_first.ensures.cases.0 a none)

pub loop-slots-smaller-in_default-fresh : goal.loop-slots-smaller-in_default-fresh
loop-slots-smaller-in_default-fresh c =
    omega (arith, ap weigh (ap nows c.in-Some.ensures.items ∙ nows-snoc c.pop.new.self.items c.in-Some.slots), weigh-snoc (nows c.pop.new.self.items) c.in-Some.slots.now, ap weigh (ap nows c.in_ok-push-2.ensures.items ∙ nows-snoc c.pop.new.self.items c.in-Some-split_first.others), weigh-snoc (nows c.pop.new.self.items) c.in-Some-split_first.others.now, ap length c.in-Some-split_first.ensures.cases.0)

pub loop-slots-preserved-in-Continue-branch-5 : goal.loop-slots-preserved-in-Continue-branch-5
loop-slots-preserved-in-Continue-branch-5 c =
    let os = map parts c.args.objects.now in let roots = refs_of (length c.args.objects.now) c.args.roots.now in let fs = nows c.pop.new.self.items in
    let a = subst (λ (l : List (List Slot)). At os roots c.loop-slots.seen.items c.loop-slots.order.items (pend (length os) l)) (ap nows c.in-Some.ensures.items ∙ nows-snoc c.pop.new.self.items c.in-Some.slots) c.loop-slots.invariant in
    let is = sym (subst (λ (l : List Bool). Some c.in-Some-fresh.object ≡ fresh_at l c.in-Some-split_first.first.now) c.as_slice.ensures.value c.in-Some-fresh.ensures) in
    let stack = ap nows c.in_ok-push-4.ensures.items ∙ (nows-snoc c.push-in-Some-split_first.new.self.items c.parts_at.result
    ∙ ap (λ (l : List (List Slot)). l ++ c.parts_at.result.now ∷ []) (ap nows c.in_ok-push-2.ensures.items ∙ nows-snoc c.pop.new.self.items c.in-Some-split_first.others)) in
    let next = next_some os roots c.loop-slots.seen.items c.loop-slots.order.items fs c.in-Some.slots.now c.in-Some-split_first.first.now c.in-Some-split_first.others.now c.parts_at.result.now c.in-Some-fresh.object c.in-Some-split_first.ensures.cases.0 a is c.parts_at.ensures in
    subst (λ (l : List (List Slot)). At os roots (set c.loop-slots.seen.items c.in-Some-fresh.object true) c.push-in-Some-fresh.new.self.items (pend (length os) l)) (sym stack)
    (subst (λ (o : List ℕ). At os roots (set c.loop-slots.seen.items c.in-Some-fresh.object true) o (pend (length os) ((fs ++ c.in-Some-split_first.others.now ∷ []) ++ c.parts_at.result.now ∷ []))) (sym c.in_ok-push-3.ensures.items) next)

pub loop-slots-smaller-in-Continue-branch-5 : goal.loop-slots-smaller-in-Continue-branch-5
loop-slots-smaller-in-Continue-branch-5 c =
    let os = map parts c.args.objects.now in
    let is = sym (subst (λ (l : List Bool). Some c.in-Some-fresh.object ≡ fresh_at l c.in-Some-split_first.first.now) c.as_slice.ensures.value c.in-Some-fresh.ensures) in
    let near : c.in-Some-fresh.object < length os = omega (arith, fresh_is_within c.loop-slots.seen.items c.in-Some-split_first.first.now c.in-Some-fresh.object is, c.loop-slots.invariant.wide) in
    let marks = unseen-mark os c.loop-slots.seen.items c.in-Some-fresh.object near (fresh_is_unseen c.loop-slots.seen.items c.in-Some-split_first.first.now c.in-Some-fresh.object is) in
    let stack = ap nows c.in_ok-push-4.ensures.items ∙ nows-snoc c.push-in-Some-split_first.new.self.items c.parts_at.result in
    omega (arith, ap weigh (ap nows c.in-Some.ensures.items ∙ nows-snoc c.pop.new.self.items c.in-Some.slots), weigh-snoc (nows c.pop.new.self.items) c.in-Some.slots.now, ap weigh (ap nows c.in_ok-push-2.ensures.items ∙ nows-snoc c.pop.new.self.items c.in-Some-split_first.others), weigh-snoc (nows c.pop.new.self.items) c.in-Some-split_first.others.now, ap length c.in-Some-split_first.ensures.cases.0, ap weigh stack, weigh-snoc (nows c.push-in-Some-split_first.new.self.items) c.parts_at.result.now, marks, ap length c.parts_at.ensures)

pub returns : goal.returns
returns c =
    at_end (map parts c.args.objects.now) (refs_of (length c.args.objects.now) c.args.roots.now) c.loop-slots.seen.items c.loop-slots.order.items (pend (length (map parts c.args.objects.now)) (nows c.loop-slots.rest_of.items)) c.loop-slots.invariant
    (ap (pend (length (map parts c.args.objects.now))) (no_lists c.loop-slots.rest_of.items (search rules)))
