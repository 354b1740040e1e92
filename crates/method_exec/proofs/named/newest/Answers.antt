use Rattle.std.proofs.Common.{◌≡◌, ℕ, List, ◌+◌, ◌-◌, length, get_or, true, false, sym, ap, ◌∙◌, arith}
use Rattle.std.specs.Str.{bytes_eq}
use Rattle.std.proofs.lemmas.List.{take_all}
use Rattle.operators.specs.Found.{found}
use Rattle.startup_rules.specs.declared.slot.Slot.{Slot}
use Rattle.operators.proofs.CallerLemmas.{newest_next, newest_there}
use Rattle.method_exec.specs.Shown.{shown}
use Rattle.method_exec.proofs.Showing.{length_shown, shown_at}
use Rattle.method_exec.proofs.named.newest.Goals as goal

pub loop-i-init : goal.loop-i-init
loop-i-init c =
    let long : length (shown c.args.entries.now) ≡ length c.args.entries.now = length_shown c.args.entries.now in
    ap (λ (l : List (List ℕ × Slot)). found l c.args.name.now) (take_all (length c.args.entries.now - 0) (shown c.args.entries.now) (omega arith))

pub returns-then-eq : goal.returns-then-eq
returns-then-eq c =
    let long : length (shown c.args.entries.now) ≡ length c.args.entries.now = length_shown c.args.entries.now in
    let same : bytes_eq c.index-entries-count.result.0.now c.args.name.now ≡ true = rw (← c.as_str.ensures) (sym c.if-eq.ensures) in
    newest_there (shown c.args.entries.now) c.args.name.now (length c.args.entries.now - c.loop-i.i) (length c.args.entries.now - c.loop-i.i - 1) (c.index-entries-count.result.0.now, c.index-entries-count.result.1)
    (omega arith) (omega arith) (shown_at c.args.entries.now (length c.args.entries.now - c.loop-i.i - 1) c.index-entries-count.result (omega arith) c.index-entries-count.is) same c.loop-i.invariant

pub loop-i-preserved : goal.loop-i-preserved
loop-i-preserved c =
    let long : length (shown c.args.entries.now) ≡ length c.args.entries.now = length_shown c.args.entries.now in
    let other : bytes_eq c.index-entries-count.result.0.now c.args.name.now ≡ false = rw (← c.as_str.ensures) (sym c.if-eq.ensures) in
    newest_next (shown c.args.entries.now) c.args.name.now (length c.args.entries.now - c.loop-i.i) (length c.args.entries.now - (c.loop-i.i + 1)) (c.index-entries-count.result.0.now, c.index-entries-count.result.1)
    (omega arith) (omega arith)
    (shown_at c.args.entries.now (length c.args.entries.now - c.loop-i.i - 1) c.index-entries-count.result (omega arith) c.index-entries-count.is
    ∙ ap (λ (k : ℕ). get_or (shown c.args.entries.now) k (c.index-entries-count.result.0.now, c.index-entries-count.result.1)) (omega arith))
    other c.loop-i.invariant
