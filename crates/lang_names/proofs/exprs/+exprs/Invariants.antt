use Rattle.std.proofs.Common.{◌≡◌, drop, map}
use Rattle.lang_names.specs.Settings.{known_of}
use Rattle.lang_names.specs.Exprs.{told_of, all_checked, left_of}
use Rattle.lang_names.proofs.exprs.+exprs.Given as goal

abbrev pub invariant-check_exprs-loop-part : goal.invariant-check_exprs-loop-part
invariant-check_exprs-loop-part l = all_checked (map (told_of (known_of l.setting)) l.parts) l.scope ≡ all_checked (map (told_of (known_of l.setting)) (drop l.part-index l.parts)) l.scope

abbrev pub invariant-check_fields-loop-field : goal.invariant-check_fields-loop-field
invariant-check_fields-loop-field l = (left_of (known_of l.setting) l.declared l.fields l.scope 0 ≡ left_of (known_of l.setting) l.declared l.fields l.scope l.field-index) × (l.before ≡ l.field-index)
