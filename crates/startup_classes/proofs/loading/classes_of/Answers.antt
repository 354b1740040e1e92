use Rattle.std.proofs.Common.{◌≡◌, ap, Err, Result, arith}
use Rattle.std.proofs.lemmas.Result.{err_from_is_err_and}
use Rattle.class_pool.specs.declared.class.Class.{Class}
use Rattle.startup_classes.specs.declared.load_fault.LoadFault.{LoadFault}
use Rattle.startup_classes.proofs.Places.{read_at}
use Rattle.startup_classes.proofs.Running.{one_more_is, small, stopped, finished}
use Rattle.startup_classes.proofs.loading.classes_of.Goals as goal

abbrev err : LoadFault → Result Class LoadFault
err f = Err f

pub class_at-requires : goal.class_at-requires
class_at-requires c = small c.args.files.now c.loop-index.index c.as_slice.result.now c.requires.small (read_at c.args.files.now c.loop-index.index c.index-files-index.result c.as_slice.result.now (omega arith) c.index-files-index.is c.as_slice.ensures)

pub returns-in_err-class-clause-stops : goal.returns-in_err-class-clause-stops
returns-in_err-class-clause-stops c = λ f e some.
    let p = err_from_is_err_and c.from_residual.result c.from_residual.ensures.1 in
    let a : c.from_residual.result ≡ Err p.0 = p.1 in
    let b : p.0 ≡ c.in_err-class.field-0.0 = p.2 in
    let same : c.in_err-class.field-0.0 ≡ f = cc in
    stopped c.args.listed.now c.args.files.now c.loop-index.earlier c.loop-index.found c.loop-index.index c.as_str-name.result.now c.as_slice.result.now f c.loop-index.invariant
    (read_at c.args.listed.now c.loop-index.index c.index-listed-index.result c.as_str-name.result.now (omega arith) c.index-listed-index.is c.as_str-name.ensures)
    (read_at c.args.files.now c.loop-index.index c.index-files-index.result c.as_slice.result.now (omega arith) c.index-files-index.is c.as_slice.ensures)
    (c.in_err-class.ensures.fault f (ap err same) some) c.in_err-class.ensures.bytes

pub loop-index-preserved : goal.loop-index-preserved
loop-index-preserved c =
    one_more_is c.args.listed.now c.args.files.now c.loop-index.earlier c.push.new.self c.loop-index.found c.push-in-loop-index.new.self c.loop-index.index c.as_str-name.result.now c.as_slice.result.now c.in_ok-class.class c.in_ok-push.ensures.ok c.in_ok-push-2.ensures.ok c.loop-index.invariant
    (read_at c.args.listed.now c.loop-index.index c.index-listed-index.result c.as_str-name.result.now (omega arith) c.index-listed-index.is c.as_str-name.ensures)
    (read_at c.args.files.now c.loop-index.index c.index-files-index.result c.as_slice.result.now (omega arith) c.index-files-index.is c.as_slice.ensures)
    c.in_ok-class.ensures.class c.in_ok-class.ensures.valid c.in_ok-class.ensures.bytes

pub returns-clause-all : goal.returns-clause-all
returns-clause-all c = finished c.args.listed.now c.args.files.now c.loop-index.earlier c.loop-index.found c.loop-index.index c.requires.same c.requires.few (omega arith) c.loop-index.invariant
