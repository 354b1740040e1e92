use Rattle.std.proofs.Common.{◌≡◌, ◌<◌, ◌+◌, ◌-◌, ◌∷◌, [], length, sym, ap, ◌∙◌, arith, option_map, rules, length-append}
use Rattle.std.proofs.lemmas.Grind.{common_steps}
use Rattle.lang_lexer.specs.Tokens as spec
use Rattle.lang_lexer.proofs.Turns.{one_more}
use Rattle.lang_lexer.proofs.Lexed.{turn_none, turn_some}
use Rattle.lang_lexer.proofs.lexer.tokens_of.Goals as goal

pub returns-in-None-clause-all : goal.returns-in-None-clause-all
returns-in-None-clause-all c =
    let e = one_more (λ n. spec.tokens_from n c.loop-turn.found c.loop-turn.rest.now) _ c.loop-turn._turn c.loop-turn-test.true c.loop-turn.invariant.same in
    let some : 0 < length c.skip-front.result.now = first_of (search rules, grind (arith, common_steps)) in
    e ∙ turn_none _ c.loop-turn.found c.loop-turn.rest.now c.skip-front.result.now _ c.skip-front.ensures.rest c.in_ok-token.ensures.front (ap (option_map (λ x. (x.0, x.1.now))) c.in-None.is) some

pub loop-turn-preserved : goal.loop-turn-preserved
loop-turn-preserved c =
    let some : 0 < length c.skip-front.result.now = first_of (search rules, grind (arith, common_steps)) in
    record {
      same =
          let e = one_more (λ n. spec.tokens_from n c.loop-turn.found c.loop-turn.rest.now) _ c.loop-turn._turn c.loop-turn-test.true c.loop-turn.invariant.same in
          e ∙ turn_some _ c.loop-turn.found c.loop-turn.rest.now c.skip-front.result.now _ _ c.skip-front.ensures.rest c.in_ok-token.ensures.front (ap (option_map (λ x. (x.0, x.1.now))) c.in-Some.is) some
          ∙ ap (λ w. spec.tokens_from (length c.args.chars.now + 1 - (c.loop-turn._turn + 1)) w c.in-Some.after.now) (sym c.in_ok-push-in-Some.ensures.ok);
      few =
          let longer : length c.push.new.self ≡ length c.loop-turn.found + 1 = ap length c.in_ok-push-in-Some.ensures.ok ∙ length-append c.loop-turn.found (c.in-Some.next ∷ []) in
          grind (arith, common_steps);
    }
