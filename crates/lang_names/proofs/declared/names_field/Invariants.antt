use Rattle.std.proofs.Common.{◌≡◌, ℕ, List, drop, map}
use Rattle.syntax_tree.specs.declared.tree.Expr.{Expr}
use Rattle.syntax_tree.specs.Known as spec
use Rattle.lang_names.proofs.declared.names_field.Given as goal

abbrev pub invariant-loop-field : goal.invariant-loop-field
invariant-loop-field l = spec.contains (map (λ (f : List ℕ × Expr). f.0) l.fields) l.word ≡ spec.contains (map (λ (f : List ℕ × Expr). f.0) (drop l.field-index l.fields)) l.word
