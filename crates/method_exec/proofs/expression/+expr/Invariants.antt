use Rattle.std.proofs.Common.{◌≡◌, map, drop, slice_index}
use Rattle.startup_rules.specs.Methods.{value, all, named, sum, sum_from, both_from}
use Rattle.method_exec.specs.Walking.{after}
use Rattle.method_exec.proofs.expression.+expr.Given as goal

abbrev pub invariant-values_of-loop-part : goal.invariant-values_of-loop-part
invariant-values_of-loop-part l =
    all (map (value l.cx l.env) l.parts) l.initial.world ≡ after l.out (all (map (value l.cx l.env) (drop l.part-index l.parts)) l.world)

abbrev pub invariant-values_of_fields-loop-field : goal.invariant-values_of_fields-loop-field
invariant-values_of_fields-loop-field l =
    named (map (λ f. (f.0, value l.cx l.env f.1)) l.fields) l.initial.world ≡ after l.out (named (map (λ f. (f.0, value l.cx l.env f.1)) (drop l.field-index l.fields)) l.world)

abbrev pub invariant-both_of-loop-i : goal.invariant-both_of-loop-i
invariant-both_of-loop-i l =
    both_from l.cx (slice_index l.signs 0) (map (value l.cx l.env) l.parts) l.signs l.initial.world ≡ both_from l.cx l.at (map (value l.cx l.env) (drop l.i l.parts)) (drop l.i l.signs) l.world

abbrev pub invariant-sum_of-loop-i : goal.invariant-sum_of-loop-i
invariant-sum_of-loop-i l =
    sum l.cx (map (value l.cx l.env) l.parts) l.signs l.fn.world ≡ sum_from l.cx l.sum (map (value l.cx l.env) (drop l.i l.others)) (drop l.i l.signs) l.world
