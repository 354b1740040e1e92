use Rattle.std.proofs.Common.{◌≡◌, ◌+◌, ℕ, List, drop, get_or, true, false, not, None, sym, ap, subst, ◌∙◌, arith}
use Rattle.std.proofs.lemmas.Bool.{not-false}
use Rattle.std.proofs.lemmas.List.{take_rest}
use Rattle.std.specs.Str.{bytes_eq}
use Rattle.operators.specs.Found.{found}
use Rattle.step_state.specs.Bound.{bound}
use Rattle.step_state.proofs.Borrowed.{length_bound, entry_bound, drop_bound}
use Rattle.step_state.proofs.InOrder.{in_order_more, none_there}
use Rattle.step_state.proofs.operation.is_in_order.Goals as goal

pub loop-i-preserved : goal.loop-i-preserved
loop-i-preserved c =
    let w = c.index-written-i.result in
    let ws = c.args.written.now in
    let at : w.0.now ≡ (get_or ws c.loop-i.i w).0.now = ap (λ x. x.0.now) c.index-written-i.is in
    let differs : not (bytes_eq w.0.now c.index-fields-i.result) ≡ false =
    subst (λ (n : List ℕ). not (bytes_eq n c.index-fields-i.result) ≡ false) (sym at) (rw (← c.as_str-field.ensures) (sym c.if-ne.ensures)) in
    let same : bytes_eq w.0.now c.index-fields-i.result ≡ true = not-false _ differs in
    let none : found (drop (c.loop-i.i + 1) (bound ws)) c.index-fields-i.result ≡ None =
    rw (drop_bound (c.loop-i.i + 1) ws) (rw (← c.as_str-field.ensures, ← take_rest ws (c.loop-i.i + 1)) (sym c.newest.ensures ∙ none_there _ (sym c.if-is_some.ensures))) in
    record {
      lengths = c.loop-i.invariant.lengths;
      so_far = in_order_more c.args.fields.now (bound ws) c.loop-i.i c.index-fields-i.result (w.0.now, w.1) (omega arith) (rw (length_bound ws) (omega arith))
          c.index-fields-i.is (entry_bound ws c.loop-i.i w (omega arith) c.index-written-i.is) same none c.loop-i.invariant.so_far;
    }
