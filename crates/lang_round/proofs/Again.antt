-- A text whose tokens are those of a tree, written canonically, is a sentence of the same tree.
use Rattle.std.proofs.Common.{◌≡◌, ℕ, Bool, true, List, ap, subst, ◌∙◌}
use Rattle.std.specs.Prelude.{All}
use Rattle.std.specs.Str.{chars, IsUtf8}
use Rattle.lang_lexer.specs.declared.token.Token.{Token}
use Rattle.syntax_tree.specs.declared.tree.Stmt.{Stmt}
use Rattle.item_types.specs.declared.decl.Names.{Names}
use Rattle.lang_lexer.specs.Tokens.{tokens}
use Rattle.lang_grammar.specs.Text.{IsText}
use Rattle.lang_print.specs.Canonical.{canonical, text_of}
use Rattle.lang_print.specs.Tokens.{body_tokens}
use Rattle.lang_round.specs.Spelled.{IsSpelled}

module _ (again : (ts : List Token) → All IsSpelled ts → tokens (chars (canonical ts)) ≡ (ts, true)) (spelled : (text : List ℕ) → IsUtf8 text → All IsSpelled (tokens (chars text)).0) where
  pub reads_again : (step : Bool) (names : Names) (c : List Stmt) (text : List ℕ) → IsUtf8 text → (i : IsText step names c text) → body_tokens names c ≡ i.xs → IsText step names c (text_of names c)
  reads_again step names c text u i e = record {
    xs = i.xs;
    all = ap (λ ts. tokens (chars (canonical ts))) e ∙ again i.xs (subst (λ (x : List Token × Bool). All IsSpelled x.0) i.all (spelled text u));
    body = i.body;
  }
