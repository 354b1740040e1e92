use Rattle.std.proofs.Common.{◌∙◌, ap, List, ℕ}
use Rattle.name_index.specs.Place.{place}
use Rattle.name_index.proofs.Places.{place-within}
use Rattle.name_index.proofs.index.Index.place.Goals as goal

pub returns-clause-within : goal.returns-clause-within
returns-clause-within c =
    place-within c.args.self.now c.args.text.now c.copied.result
    (c.copied.ensures ∙ c.get.ensures.value ∙ c.self.invariant c.args.text.now ∙ ap (λ (ns : List (List ℕ)). place ns c.args.text.now) c.self.view_is)
