use Rattle.std.proofs.Common.{◌≡◌, replicate}
use Rattle.item_store.specs.Kept.{nothing}
use Rattle.item_store.proofs.store.Store.new.Given as goal

abbrev pub invariant-loop-item : goal.invariant-loop-item
invariant-loop-item l = l.held ≡ replicate l._item-index nothing
