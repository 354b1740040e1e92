use Rattle.std.proofs.Common.{◌≡◌, ◌∙◌, ap, sym, suc, add-one, List, ◌∷◌, drop, drop-cons}
use Rattle.std.specs.Prelude.{codes}
use Rattle.ext_draft.specs.Paths.{nth, inside}
use Rattle.ext_draft.specs.declared.draft.DraftExtension.{DraftExtension}
use Rattle.ext_parser.specs.SecondWalk.{extension_right, extensions_right, names_with}
use Rattle.ext_parser.specs.declared.second_walk.Before.{Before}
use Rattle.ext_parser.proofs.Rows.{goes-on, stops-at}
use Rattle.ext_parser.proofs.second_walk.extensions_right.Goals as goal

pub returns-in-Err : goal.returns-in-Err
returns-in-Err c =
    let i = c.loop-index.index in
    let known = c.args.known.now in
    let extensions : List DraftExtension = c.args.extensions.now in
    let e : DraftExtension = c.index-extensions-index.result in
    let before : Before = c.loop-index.before in
    let left : drop i extensions ≡ e ∷ drop (suc i) extensions
    = drop-cons extensions i e c.loop-index-test.true ∙ ap (λ (d : DraftExtension). d ∷ drop (suc i) extensions) (sym c.index-extensions-index.is) in
    stops-at {A = Before} c.in-Err.fault (extension_right known (inside (nth (codes "extensions") i)) before e)
    (extensions_right known (suc i) (names_with before e) (drop (suc i) extensions))
    _ (names_with before e)
    (rw (c.as_str.ensures.value, c.in_ok-prefix.ensures) at c.in-Err.ensures)
    (c.loop-index.invariant ∙ ap (λ (es : List DraftExtension). extensions_right known i before es) left)

pub loop-index-preserved : goal.loop-index-preserved
loop-index-preserved c =
    let i = c.loop-index.index in
    let known = c.args.known.now in
    let extensions : List DraftExtension = c.args.extensions.now in
    let e : DraftExtension = c.index-extensions-index.result in
    let before : Before = c.loop-index.before in
    let more : Before = c.in-Ok.more in
    let left : drop i extensions ≡ e ∷ drop (suc i) extensions
    = drop-cons extensions i e c.loop-index-test.true ∙ ap (λ (d : DraftExtension). d ∷ drop (suc i) extensions) (sym c.index-extensions-index.is) in
    goes-on {A = Before} more (names_with before e) (extension_right known (inside (nth (codes "extensions") i)) before e)
    (λ (b : Before). extensions_right known (suc i) b (drop (suc i) extensions))
    _
    (rw (c.as_str.ensures.value, c.in_ok-prefix.ensures) at c.in-Ok.ensures)
    (c.loop-index.invariant ∙ ap (λ (es : List DraftExtension). extensions_right known i before es) left)
    ∙ ap (λ k. extensions_right known k more (drop k extensions)) (sym (add-one i))
