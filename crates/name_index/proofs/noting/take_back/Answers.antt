use Rattle.std.proofs.Common.{◌∙◌, sym, ap, Some, ℕ}
use Rattle.name_index.proofs.Places.{taken}
use Rattle.name_index.proofs.noting.take_back.Goals as goal

pub returns-then-found-place : goal.returns-then-found-place
returns-then-found-place c =
    taken c.args.places.now c.remove.new.self c.args.name.now c.args.place
    (sym (c.copied.ensures ∙ c.get.ensures.value) ∙ c.in-Some.is ∙ ap (λ (n : ℕ). Some n) c.if-found-place.true) c.remove.ensures.updates
