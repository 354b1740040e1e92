use Rattle.std.proofs.Common.{◌≡◌, map, drop, false}
use Rattle.lang_print.specs.Lines.{put_all}
use Rattle.lang_print.specs.Tokens.{parted, expr_tokens, fields_tokens}
use Rattle.lang_print.proofs.exprs.+exprs.Given as goal

abbrev pub invariant-print_parts-loop-part : goal.invariant-print_parts-loop-part
invariant-print_parts-loop-part l =
    put_all (parted l.mark false (map (expr_tokens l.names) l.parts)) l.fn.out ≡ put_all (parted l.mark l.later (map (expr_tokens l.names) (drop l.part-index l.parts))) l.out

abbrev pub invariant-print_fields-loop-field : goal.invariant-print_fields-loop-field
invariant-print_fields-loop-field l = put_all (fields_tokens l.names false l.fields) l.fn.out ≡ put_all (fields_tokens l.names l.later (drop l.field-index l.fields)) l.out
