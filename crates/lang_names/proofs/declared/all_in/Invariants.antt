use Rattle.std.proofs.Common.{◌≡◌, ℕ, List, drop, map}
use Rattle.syntax_tree.specs.declared.tree.Expr.{Expr}
use Rattle.syntax_tree.specs.Known as spec
use Rattle.lang_names.proofs.declared.all_in.Given as goal

abbrev pub invariant-loop-word : goal.invariant-loop-word
invariant-loop-word l = spec.all_in l.words (map (λ (f : List ℕ × Expr). f.0) l.fields) ≡ spec.all_in (drop l.word-index l.words) (map (λ (f : List ℕ × Expr). f.0) l.fields)
