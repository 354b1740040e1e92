-- A sign of a comparison, the part behind it, and the tree of both parts.
use Rattle.std.specs.Prelude.{ℕ}
use Rattle.lang_lexer.specs.declared.token.Mark.{Mark}
use Rattle.syntax_tree.specs.declared.tree.Expr.{Expr}
use Rattle.lang_grammar.specs.Place.{Parser, ◌>>=◌, pure}
use Rattle.lang_grammar.specs.Rules.{sign}

abbrev pub compared_with : ℕ → Mark → (Expr → ℕ → Expr → Expr) → Parser Expr → Expr → Parser Expr
compared_with left m make sum x = sign left m >>= λ s. sum >>= λ y. pure (make x s y)
