use Rattle.std.proofs.Common.{◌≡◌, map, drop, slice_index}
use Rattle.step_eval.specs.Expressions.{meaning, all, named, sum, sum_from, both_from}
use Rattle.step_eval.proofs.Steps.{after}
use Rattle.step_eval.proofs.expression.+expr.Given as goal

abbrev pub invariant-values_of-loop-part : goal.invariant-values_of-loop-part
invariant-values_of-loop-part l = all (map (meaning l.cx) l.parts) l.fn.state ≡ after l.out (all (map (meaning l.cx) (drop l.part-index l.parts)) l.state)

abbrev pub invariant-values_of_fields-loop-field : goal.invariant-values_of_fields-loop-field
invariant-values_of_fields-loop-field l =
    named (map (λ f. (f.0, meaning l.cx f.1)) l.fields) l.fn.state ≡ after l.written (named (map (λ f. (f.0, meaning l.cx f.1)) (drop l.field-index l.fields)) l.state)

abbrev pub invariant-both_of-loop-i : goal.invariant-both_of-loop-i
invariant-both_of-loop-i l =
    both_from (slice_index l.signs 0) (map (meaning l.cx) l.parts) l.signs l.fn.state ≡ both_from l.at (map (meaning l.cx) (drop l.i l.parts)) (drop l.i l.signs) l.state

abbrev pub invariant-sum_of-loop-i : goal.invariant-sum_of-loop-i
invariant-sum_of-loop-i l =
    sum (map (meaning l.cx) l.parts) l.signs l.fn.state ≡ sum_from l.sum (map (meaning l.cx) (drop l.i l.others)) (drop l.i l.signs) l.state
