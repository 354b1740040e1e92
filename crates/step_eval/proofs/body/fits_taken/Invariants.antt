use Rattle.std.proofs.Common.{◌≡◌, ◌≤◌, drop}
use Rattle.step_eval.specs.BodyMeaning.{taking}
use Rattle.step_eval.proofs.body.fits_taken.Given as goal

abbrev pub invariant-loop-place : goal.invariant-loop-place
invariant-loop-place l = record {
  counted : taking l.cx.decl.consumes l.cx.lists 0 0 0 ≡ taking (drop l.place l.cx.decl.consumes) l.cx.lists l.place l.cells l.text;
  cells_in : l.cells ≤ 16384;
  text_in : l.text ≤ 262144;
}
