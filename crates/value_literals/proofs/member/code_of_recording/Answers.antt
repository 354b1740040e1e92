use Rattle.std.proofs.Common.{◌≡◌, None, List, subst, ◌∙◌, ap}
use Rattle.std.specs.Prelude.{Result, Ok, Err}
use Rattle.class_pool.specs.declared.entry.Entry.{Entry}
use Rattle.class_pool.specs.declared.pool_err.PoolErr.{PoolErr}
use Rattle.value_literals.specs.Emitted.{Does, Parts, code_of}
use Rattle.value_literals.proofs.Room.{filled, told}
use Rattle.value_literals.proofs.Steps.{not_both}
use Rattle.value_literals.proofs.member.code_of_recording.Goals as goal

pub unreachable-requires : goal.unreachable-requires
unreachable-requires c =
    let f = filled c.args.names.now c.args.class.now c.args.recording.now c.args.pool.now c.requires.few c.requires.cells c.requires.refer c.requires.small in
    let outcome = code_of c.args.names.now c.args.recording.now c.args.class.now c.args.pool.now in
    let is = c.in-Err-Full.is ∙ ap (λ (e : PoolErr). err_of e) c.in-Err-Full.field-0-is in
    not_both outcome (f.0, f.1) f.2 (subst (λ (r : Result Parts PoolErr). Does outcome r c.of_recording.new.pool) is c.of_recording.ensures)
  where
    err_of : PoolErr → Result Parts PoolErr
    err_of e = Err e

pub returns-in-Ok-clause-refer : goal.returns-in-Ok-clause-refer
returns-in-Ok-clause-refer c =
    let outcome = code_of c.args.names.now c.args.recording.now c.args.class.now c.args.pool.now in
    (told c.args.names.now c.args.class.now c.args.recording.now c.args.pool.now c.in-Ok.parts c.of_recording.new.pool c.requires.few c.requires.cells c.requires.refer c.requires.small
    (subst (λ (r : Result Parts PoolErr). Does outcome r c.of_recording.new.pool) c.in-Ok.is c.of_recording.ensures)).refer

pub returns-in-Ok-clause-members : goal.returns-in-Ok-clause-members
returns-in-Ok-clause-members c =
    let outcome = code_of c.args.names.now c.args.recording.now c.args.class.now c.args.pool.now in
    (told c.args.names.now c.args.class.now c.args.recording.now c.args.pool.now c.in-Ok.parts c.of_recording.new.pool c.requires.few c.requires.cells c.requires.refer c.requires.small
    (subst (λ (r : Result Parts PoolErr). Does outcome r c.of_recording.new.pool) c.in-Ok.is c.of_recording.ensures)).members

pub returns-in-Ok-clause-room : goal.returns-in-Ok-clause-room
returns-in-Ok-clause-room c =
    let outcome = code_of c.args.names.now c.args.recording.now c.args.class.now c.args.pool.now in
    (told c.args.names.now c.args.class.now c.args.recording.now c.args.pool.now c.in-Ok.parts c.of_recording.new.pool c.requires.few c.requires.cells c.requires.refer c.requires.small
    (subst (λ (r : Result Parts PoolErr). Does outcome r c.of_recording.new.pool) c.in-Ok.is c.of_recording.ensures)).room
