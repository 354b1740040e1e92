use Rattle.std.proofs.Common.{◌≡◌, ◌∙◌}
use Rattle.item_types.specs.declared.value.Value.TheVariants as made
use Rattle.value_cases.proofs.stores.hands_out_what_was_put.Goals as goal

pub reserve-requires : goal.reserve-requires
reserve-requires g c = rw c.in_ok-store.ensures.names c.in_ok-names.ensures.items

pub put-requires-clause-key : goal.put-requires-clause-key
put-requires-clause-key g c =
    let e : c.reserve.new.self.names ≡ c.in_ok-names.names = c.reserve.ensures.others.0 ∙ c.in_ok-store.ensures.names in
    rw e (c.in_ok-names.ensures.first _)
