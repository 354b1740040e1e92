use Rattle.std.proofs.Common.{Bool, ◌||◌, sym, ap, ◌∙◌}
use Rattle.std.proofs.lemmas.Result.{err_from_is_err_and}
use Rattle.std.specs.List.{list_any}
use Rattle.class_grammar.specs.Grammar as spec
use Rattle.class_reader.proofs.Loops.{goes_on, stops, is_done, any_more}
use Rattle.class_reader.proofs.attributes.attributes_of.Goals as goal

pub returns-in_err-attribute : goal.returns-in_err-attribute
returns-in_err-attribute c =
    let p = err_from_is_err_and c.from_residual.result c.from_residual.ensures.1 in
    rw (p.1, p.2) (stops (λ found. spec.attribute_of c.args.es.now (list_any spec.is_coded found)) c.args.count c.loop-turn._turn _ _ _ c.in_err-attribute.field-0.0 c.loop-turn-test.true c.loop-turn.invariant.0 (rw (sym c.loop-turn.invariant.1) c.in_err-attribute.ensures.reads))

pub loop-turn-preserved : goal.loop-turn-preserved
loop-turn-preserved c =
    rw c.in_ok-push.ensures.ok (
      goes_on (λ found. spec.attribute_of c.args.es.now (list_any spec.is_coded found)) c.args.count c.loop-turn._turn _ _ _ _ _ c.loop-turn-test.true c.loop-turn.invariant.0 (rw (sym c.loop-turn.invariant.1) c.in_ok-attribute.ensures.reads),
      c.in_ok-attribute.ensures.kind ∙ ap (λ (b : Bool). b || spec.is_coded c.in_ok-attribute.attribute) c.loop-turn.invariant.1 ∙ sym (any_more spec.is_coded c.loop-turn.found c.in_ok-attribute.attribute),
    )

pub returns : goal.returns
returns c = is_done (λ found. spec.attribute_of c.args.es.now (list_any spec.is_coded found)) c.args.count c.loop-turn._turn _ _ _ c.loop-turn-test.false c.loop-turn.invariant.0
