use Rattle.std.proofs.Common.{◌≡◌, ◌∙◌, sym, refl}
use Rattle.startup_classes.proofs.Checks.{loaded_if, valid_if, whole_if, failed, stuck}
use Rattle.startup_classes.proofs.loading.class_at.Goals as goal

pub returns-in-Ok-clause-class : goal.returns-in-Ok-clause-class
returns-in-Ok-clause-class c = loaded_if c.args.earlier.now c.args.index c.args.name.now c.args.bytes.now c.in-Ok.class c.checked.result c.in-Ok.ensures.spells c.checked.ensures

pub returns-in-Ok-clause-valid : goal.returns-in-Ok-clause-valid
returns-in-Ok-clause-valid c = valid_if c.args.earlier.now c.args.index c.args.name.now c.in-Ok.class c.checked.result c.in-Ok.ensures.valid c.checked.ensures

pub returns-in-Ok-clause-fault : goal.returns-in-Ok-clause-fault
returns-in-Ok-clause-fault c = λ f e some. failed c.args.earlier.now c.args.index c.args.name.now c.args.bytes.now c.in-Ok.class f c.in-Ok.ensures.spells (sym c.checked.ensures ∙ e)

pub returns-in-Ok-clause-whole : goal.returns-in-Ok-clause-whole
returns-in-Ok-clause-whole c = whole_if c.args.earlier.now c.args.index c.args.name.now c.in-Ok.class c.checked.result c.checked.ensures

pub returns-in-Err-clause-fault : goal.returns-in-Err-clause-fault
returns-in-Err-clause-fault c = λ f e some.
    let told : c.class_fault.result ≡ f = cc in
    stuck c.args.earlier.now c.args.index c.args.name.now c.args.bytes.now c.in-Err.fault f (sym c.class_fault.ensures ∙ told) some (λ mem. c.in-Err.ensures.stuck c.in-Err.fault refl mem)
