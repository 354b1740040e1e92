use Rattle.startup_classes.proofs.Running.{AreLoaded}
use Rattle.startup_classes.proofs.loading.classes_of.Given as goal

abbrev pub invariant-loop-index : goal.invariant-loop-index
invariant-loop-index l = AreLoaded l.listed l.files l.earlier l.found l.index
