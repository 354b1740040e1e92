use Rattle.std.proofs.Common.{◌<◌, length, arith, subst, sym}
use Rattle.std.proofs.lemmas.Bool.Decides.{nat_tests}
use Rattle.std.specs.Prelude.{Contains}
use Rattle.chain_builder.specs.Marks.{Numbers}
use Rattle.chain_builder.proofs.MarkLemmas.{item_within}
use Rattle.chain_builder.proofs.marks.Marks.contains.Goals as goal

pub returns-else-at-len : goal.returns-else-at-len
returns-else-at-len c = (grind (arith, nat_tests), λ h. let w : c.args.x < length c.self.inside.flags.items = item_within _ _ _ c.self.invariant (subst (λ (s : Numbers). Contains s.items c.args.x) (sym c.self.view_is) h) in grind (arith, nat_tests))
