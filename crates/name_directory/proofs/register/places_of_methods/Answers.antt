use Rattle.std.proofs.Common.{List, map, subst}
use Rattle.item_types.specs.declared.decl.MethodSig.{MethodSig}
use Rattle.name_directory.specs.Numbers.{HasPlaces}
use Rattle.name_directory.proofs.Found.{one_more}
use Rattle.name_directory.proofs.register.places_of_methods.Goals as goal

pub loop-recorder-preserved : goal.loop-recorder-preserved
loop-recorder-preserved c =
    one_more c.args.recorders.now c.loop-recorder.recorder-index c.recorder-item.result c.loop-recorder.found c.push.new.self c.in_ok-places_of.field-0
    c.loop-recorder-test.true c.recorder-item.is c.loop-recorder.invariant
    (subst (λ (ms : List MethodSig). HasPlaces c.in_ok-places_of.field-0 (map (λ (m : MethodSig). m.name) ms)) c.as_slice.ensures c.in_ok-places_of.ensures) c.in_ok-push.ensures.ok
