use Rattle.std.proofs.Common.{◌<◌, List, length, refl, sym, subst}
use Rattle.class_pool.specs.declared.entry.Entry.{Entry}
use Rattle.class_pool.proofs.Grows.{unchanged, gapped}
use Rattle.class_pool.proofs.pool.Pool.put_gap.Goals as goal

pub invariant_of-self : goal.invariant_of-self
invariant_of-self c = unchanged c.self.inside _ c.self.invariant c.in_err-push.ensures.items refl refl

pub invariant_of-self-2 : goal.invariant_of-self-2
invariant_of-self-2 c = gapped c.self.inside _ c.self.invariant c.in_ok-push.ensures.items refl refl (subst (λ (es : List Entry). length es < 65534) (sym c.self.view_is) c.requires)
