use Rattle.std.proofs.Common.{◌≡◌, map, drop}
use Rattle.lang_print.specs.Lines.{put_all}
use Rattle.lang_print.specs.Tokens.{together, link_tokens}
use Rattle.lang_print.proofs.exprs.print_links.Given as goal

abbrev pub invariant-loop-link : goal.invariant-loop-link
invariant-loop-link l = put_all (together (map link_tokens l.links)) l.fn.out ≡ put_all (together (map link_tokens (drop l.link-index l.links))) l.out
