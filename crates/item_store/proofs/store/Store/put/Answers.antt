use Rattle.std.proofs.Common.{length-set, ◌∙◌}
use Rattle.item_store.proofs.Keys.{HaveKeys-put}
use Rattle.item_store.proofs.store.Store.put.Goals as goal

pub invariant_of-self : goal.invariant_of-self
invariant_of-self c = (
  length-set c.self.inside.held.items c.args.item c.put.new.self ∙ c.self.invariant.0,
  HaveKeys-put c.self.inside.names c.self.inside.held.items c.args.self.now c.args.item c.index_mut-pile.result.now c.put.new.self c.args.value c.self.view_is c.requires.spare c.requires.key c.self.invariant.1 c.index_mut-pile.ensures.value c.put.ensures,
)
