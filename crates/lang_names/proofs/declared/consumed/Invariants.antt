use Rattle.std.proofs.Common.{◌≡◌, drop}
use Rattle.syntax_tree.specs.Known as spec
use Rattle.lang_names.proofs.declared.consumed.Given as goal

abbrev pub invariant-loop-entry : goal.invariant-loop-entry
invariant-loop-entry l = spec.consumed l.consumes l.item ≡ spec.consumed (drop l.entry-index l.consumes) l.item
