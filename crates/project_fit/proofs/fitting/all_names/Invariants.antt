use Rattle.std.proofs.Common.{◌≡◌, drop, map}
use Rattle.std.specs.List.{list_all}
use Rattle.ext_draft.specs.Names.{is_name}
use Rattle.project_fit.proofs.fitting.all_names.Given as goal

-- those so far have names
abbrev pub invariant-loop-thing : goal.invariant-loop-thing
invariant-loop-thing g l = list_all is_name (map g.M.Named.named l.things) ≡ list_all is_name (map g.M.Named.named (drop l.thing-index l.things))
