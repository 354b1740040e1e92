use Rattle.std.proofs.Common.{◌++◌, sym, ap, ◌∙◌, arith, List, ℕ}
use Rattle.std.proofs.lemmas.List.{append-nil}
use Rattle.startup_rules.specs.Methods.{Env}
use Rattle.method_exec.proofs.Listing.{paired_end}
use Rattle.method_exec.proofs.invoking.env_of.Goals as goal

pub returns : goal.returns
returns c =
    sym (c.loop-i.invariant ∙ (ap (λ (l : Env). c.loop-i.env ++ l) (paired_end c.args.params.now c.args.args.now c.loop-i.i (omega arith)) ∙ append-nil c.loop-i.env))
