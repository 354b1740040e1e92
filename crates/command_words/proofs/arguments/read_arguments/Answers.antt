use Rattle.std.proofs.Common.{◌∙◌, refl, sym, string_bytes}
use Rattle.command_words.proofs.Reading.{nothing_read, next_word, value_read, option_read, word_read}
use Rattle.command_words.proofs.arguments.read_arguments.Goals.{then-is_value+in_ok-read, else-is_value+else-eq+then-eq-2, else-is_value+else-eq+else-eq-2+in_ok-read-2}
use Rattle.command_words.proofs.arguments.read_arguments.Goals as goal

pub loop-at-init : goal.loop-at-init
loop-at-init c = nothing_read _ _ (λ i. record { operands = c.new.ensures i; workers = c.new-2.ensures i })

pub loop-at-preserved : goal.loop-at-preserved
loop-at-preserved c =
    let next = next_word string_bytes c.args.words.now c.loop-at.at c.index-words-at.result c.as_str-word.result.now c.loop-at-test.true c.index-words-at.is c.as_str-word.ensures.value in
    elim c.if-is_value.branch [
      | then-is_value+in_ok-read w ↦ value_read _ c.loop-at.read w.in_ok-read.read _ _ _ _ _ _ next c.loop-at.invariant w.read-is w.if-is_value.true w.in_ok-read.ensures w.is_value-is
      | else-is_value+else-eq+then-eq-2 w ↦
          option_read _ c.loop-at.read c.loop-at.read _ _ _ _ _ _ next c.loop-at.invariant w.read-is w.if-is_value.false (sym w.eq.ensures ∙ w.if-eq.false)
          (sym w.eq-else-eq.ensures ∙ w.if-eq-2.true) refl w.is_value-is
      | else-is_value+else-eq+else-eq-2+in_ok-read-2 w ↦
          word_read _ c.loop-at.read w.in_ok-read-2.read _ _ _ _ _ _ next c.loop-at.invariant w.read-is w.if-is_value.false (sym w.eq.ensures ∙ w.if-eq.false)
          (sym w.eq-else-eq.ensures ∙ w.if-eq-2.false) w.in_ok-read-2.ensures (w.is_value-is ∙ w.if-is_value.false)
    ]
