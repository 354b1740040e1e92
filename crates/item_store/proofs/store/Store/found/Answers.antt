use Rattle.item_store.proofs.store.Store.found.Goals as goal

pub returns-clause-keyed : goal.returns-clause-keyed
returns-clause-keyed c =
    let all = c.found.ensures.keyed (rw (c.values_at.ensures.value, c.as_slice.ensures.value) (c.self.invariant.1 c.args.item)) in
    rw (← c.self.view_is) all
