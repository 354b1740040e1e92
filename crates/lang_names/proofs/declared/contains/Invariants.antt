use Rattle.std.proofs.Common.{◌≡◌, drop}
use Rattle.syntax_tree.specs.Known as spec
use Rattle.lang_names.proofs.declared.contains.Given as goal

abbrev pub invariant-loop-other : goal.invariant-loop-other
invariant-loop-other l = spec.contains l.words l.word ≡ spec.contains (drop l.other-index l.words) l.word
