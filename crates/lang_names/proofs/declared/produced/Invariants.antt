use Rattle.std.proofs.Common.{◌≡◌, drop}
use Rattle.syntax_tree.specs.Known as spec
use Rattle.lang_names.proofs.declared.produced.Given as goal

abbrev pub invariant-loop-entry : goal.invariant-loop-entry
invariant-loop-entry l = spec.produced l.produces l.item ≡ spec.produced (drop l.entry-index l.produces) l.item
