use Rattle.std.proofs.Common.{◌≡◌, refl, inr, rules}
use Rattle.std.proofs.lemmas.Result.{IfOk-weaker}
use Rattle.class_grammar.specs.FaultText.{fault_text}
use Rattle.quarkus_cli.specs.Outcomes.{OfClass, no_class}
use Rattle.quarkus_cli.proofs.dump.dump_class.Goals as goal

pub returns-in-Err : goal.returns-in-Err
returns-in-Err c =
    let name = c.args.name.now in
    let fault = c.in-Err.fault in
    IfOk-weaker c.fault_refused.result (λ o. o ≡ no_class name (fault_text fault)) (OfClass name c.args.bytes.now)
    (λ o is. inr (fault, c.in-Err.ensures.stuck fault refl (search rules), is)) c.fault_refused.ensures
