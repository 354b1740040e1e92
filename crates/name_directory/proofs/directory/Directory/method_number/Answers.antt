use Rattle.std.proofs.Common.{◌∙◌, ap, sym, subst, ℕ, Some}
use Rattle.std.specs.HashMap.{get_by_text}
use Rattle.std.specs.Prelude.{slice_get}
use Rattle.std.proofs.lemmas.Option.{slice_get-get_or, slice_get_past}
use Rattle.item_types.specs.declared.decl.Names.{Names}
use Rattle.name_directory.specs.Numbers.{number_at, AreMethods}
use Rattle.name_directory.proofs.Found.{method_place, method_some, method_none}
use Rattle.name_directory.proofs.directory.Directory.method_number.Goals as goal

pub returns-in-Some : goal.returns-in-Some
returns-in-Some c =
    c.number_at.ensures ∙ ap number_at (c.copied.ensures ∙ c.get-in-Some.ensures.value ∙ ap (get_by_text c.in-Some.places.now) c.as_str.ensures)
    ∙ method_some c.self.inside.names.now.recorders c.as_slice.result.now c.recorder_number-number.result c.in-Some.places.now c.args.word.now
    (subst (λ v. AreMethods v c.self.inside.names.now.recorders) (sym c.as_slice.ensures) c.self.invariant.methods)
    (ap Some c.in-Some.ensures.lookup.1 ∙ sym (slice_get-get_or c.as_slice.result.now c.recorder_number-number.result c.in-Some.places.now c.in-Some.ensures.lookup.3.0))
    ∙ ap (λ (names : Names). method_place (slice_get names.recorders c.recorder_number-number.result) c.args.word.now) c.self.view_is
    ∙ ap (λ (k : ℕ). method_place (slice_get c.args.self.now.recorders k) c.args.word.now) c.recorder_number-number.ensures

pub returns-in-None : goal.returns-in-None
returns-in-None c =
    method_none c.self.inside.names.now.recorders c.as_slice.result.now c.recorder_number-number.result c.args.word.now
    (subst (λ v. AreMethods v c.self.inside.names.now.recorders) (sym c.as_slice.ensures) c.self.invariant.methods)
    (sym (slice_get_past c.as_slice.result.now c.recorder_number-number.result c.in-None.ensures.lookup.3))
    ∙ ap (λ (names : Names). method_place (slice_get names.recorders c.recorder_number-number.result) c.args.word.now) c.self.view_is
    ∙ ap (λ (k : ℕ). method_place (slice_get c.args.self.now.recorders k) c.args.word.now) c.recorder_number-number.ensures
