use Rattle.std.proofs.Common.{◌∷◌, [], List, sym, subst}
use Rattle.class_pool.specs.declared.entry.Entry.{Entry}
use Rattle.class_pool.specs.declared.entry.Entry.TheVariants as entry
use Rattle.class_pool.specs.Showing.{Holds}
use Rattle.class_pool.proofs.Shows.{holds_more}
use Rattle.class_pool.proofs.pool.Pool.put_two.Goals as goal

pub returns-in-Ok-clause-holds : goal.returns-in-Ok-clause-holds
returns-in-Ok-clause-holds c =
    subst (λ (es : List Entry). Holds es c.in_ok-index.index c.args.what.now) (sym c.in-Ok.ensures.ok) (holds_more c.put.new.self (entry.Gap ∷ []) c.in_ok-index.index c.args.what.now c.in_ok-index.ensures.holds)
