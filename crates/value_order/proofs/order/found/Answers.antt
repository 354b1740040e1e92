use Rattle.value_order.proofs.ItemKinds.{kind_here, kind_past}
use Rattle.value_order.proofs.order.found.Goals as goal

pub returns-in-Some-clause-keyed : goal.returns-in-Some-clause-keyed
returns-in-Some-clause-keyed c =
    let h = rw c.as_slice.ensures at c.in-Some.ensures.lookup in
    rw (kind_here c.args.names.now.items c.args.item c.in-Some.decl.now h.3.0 h.1) c.found_as.ensures.keyed

pub returns-in-None-clause-value : goal.returns-in-None-clause-value
returns-in-None-clause-value c =
    let h = rw c.as_slice.ensures at c.in-None.ensures.lookup in
    rw (kind_past c.args.names.now.items c.args.item h.3) c.new.ensures

pub returns-in-None-clause-places : goal.returns-in-None-clause-places
returns-in-None-clause-places c =
    let h = rw c.as_slice.ensures at c.in-None.ensures.lookup in
    rw (kind_past c.args.names.now.items c.args.item h.3) c.new.ensures
