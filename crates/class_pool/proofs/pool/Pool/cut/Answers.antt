use Rattle.std.proofs.Common.{refl}
use Rattle.class_pool.proofs.Grows.{shortened}
use Rattle.class_pool.proofs.pool.Pool.cut.Goals as goal

pub invariant_of-self : goal.invariant_of-self
invariant_of-self c = shortened c.self.inside _ c.args.len c.self.invariant c.truncate.ensures.items refl refl
