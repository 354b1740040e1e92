use Rattle.std.proofs.Common.{◌∙◌, sym, arith}
use Rattle.command_words.proofs.Numbers.{hidden, shown, unparsed, unspelled}
use Rattle.command_words.proofs.number.read_number.Goals.{then-number-lt1-via-then-number-lt1, then-number-lt1-via-else-number-lt1+then-limit-number}
use Rattle.command_words.proofs.number.read_number.Goals as goal

pub returns-in_default : goal.returns-in_default
returns-in_default c = sym (unparsed c.args.limit c.args.word.now c.in_default.field-0 c.ranges.limit.fits c.in_default.ensures.value.0)

pub returns-then-number-lt1 : goal.returns-then-number-lt1
returns-then-number-lt1 c =
    sym (unspelled c.args.limit c.in-Ok.number c.args.word.now c.parse.result c.ranges.limit.fits c.in-Ok.is (λ low high is. elim c.then-number-lt1.branch [
      | then-number-lt1-via-then-number-lt1 w ↦ omega (arith, low, w.if-number-lt1.true)
      | then-number-lt1-via-else-number-lt1+then-limit-number w ↦ omega (arith, high, w.if-limit-number.true)
    ]) c.parse.ensures.value.0)

pub returns-then-eq : goal.returns-then-eq
returns-then-eq c = shown c.args.limit c.in-Ok.number c.args.word.now c.as_str.result.now (c.as_str.ensures.value ∙ c.in_ok-digits.ensures.ok) c.if-number-lt1.false c.if-limit-number.false c.ranges.limit.fits (sym c.eq.ensures ∙ c.if-eq.true)

pub returns : goal.returns
returns c = hidden c.args.limit c.in-Ok.number c.args.word.now c.as_str.result.now c.parse.result (c.as_str.ensures.value ∙ c.in_ok-digits.ensures.ok) c.ranges.limit.fits c.in-Ok.is (sym c.eq.ensures ∙ c.if-eq.false) c.parse.ensures.value.0
