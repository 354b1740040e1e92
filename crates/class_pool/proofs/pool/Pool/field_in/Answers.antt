use Rattle.std.proofs.Common.{◌≡◌, None, sym, ◌∙◌}
use Rattle.class_pool.specs.declared.shown.Shown.TheVariants as shown
use Rattle.class_pool.specs.Showing.{least}
use Rattle.class_pool.specs.Enter.{field}
use Rattle.class_pool.proofs.Steps.{not_found}
use Rattle.class_pool.proofs.pool.Pool.field_in.Goals as goal

pub returns-clause-does : goal.returns-clause-does
unfolding field
returns-clause-does c =
    let absent : least (shown.Field c.args.class.now c.args.name.now c.args.descriptor.now) c.args.self.now ≡ None =
    sym (rw (c.in_ok-try_copy.ensures, c.in_ok-try_copy-2.ensures, c.in_ok-try_copy-3.ensures) at c.in_ok-index.ensures.least) ∙ c.in-None.is in
    not_found _ _ c.args.self.now c.new_field.new.self c.new_field.result absent c.new_field.ensures.does
