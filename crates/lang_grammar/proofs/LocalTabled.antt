-- Expressions are read, and are stuck, for the tokens up to the next alone.
use Rattle.std.proofs.Common.{ℕ, zero, suc, Bool, true, false, List, [], ◌∷◌}
use Rattle.std.specs.Prelude.{not}
use Rattle.lang_lexer.specs.declared.token.Mark.TheVariants.{Get, All, New, Len, True, False, Null, Me, Static, Dot, Colon, Open, Close, OpenList, CloseList, OpenBlock, CloseBlock, Equal, Less, Plus, Bang, And}
use Rattle.lang_lexer.specs.declared.token.Token.{Token}
use Rattle.lang_lexer.specs.declared.token.Token.TheVariants.{Sign, Number, Str, Name}
use Rattle.syntax_tree.specs.declared.tree.Link.{Link}
use Rattle.syntax_tree.specs.declared.tree.Expr.{Expr}
use Rattle.syntax_tree.specs.declared.tree.Expr.TheVariants as e
use Rattle.item_types.specs.declared.decl.Names.{Names}
use Rattle.lang_grammar.specs.Place.{is}
use Rattle.syntax_tree.specs.Naming.{item_number, bean_number}
use Rattle.lang_grammar.specs.Forms.{Form, nothing, give, ◌⟫=◌, by_first, more}
use Rattle.lang_grammar.specs.Table as table
use Rattle.lang_grammar.specs.Table.{compares}
use Rattle.lang_grammar.proofs.Local.{Local, local_nothing, local_give, local_here, local_sign, local_name, local_number, local_text, local_then, local_last, local_first, local_optional, local_more, local_allowed, local_opening, local_listing, local_chain}

module _ (step : Bool) (names : Names) where
  local_link : (n : ℕ) → Local (table.link step names n)
  unfolding table.link
  local_link n = local_then (local_sign n Dot) (λ dot. local_last {B = Link} (λ f. record { dot = dot; field = f }) (local_name n))

  module _ (inner : Form Expr) (li : Local inner) where
    local_paren : (n : ℕ) → Local (table.paren step names n inner)
    unfolding table.paren
    local_paren n = local_opening n Open (λ m at. local_then li (λ x. local_then (local_sign m Close) (λ _. local_give (e.Paren at x))))

    local_listed : (n : ℕ) → Local (table.listed step names n inner)
    unfolding table.listed
    local_listed n = local_opening n OpenList (λ m at. local_last (λ xs. e.ListOf at xs) (local_listing m CloseList li))

    local_field : (n : ℕ) → Local (table.field step names n inner)
    unfolding table.field
    local_field n = local_then (local_name n) (λ f. local_then (local_sign n Colon) (λ _. local_last {B = List ℕ × Expr} (λ x. (f, x)) li))

    local_made : (n : ℕ) → Local (table.made step names n inner)
    unfolding table.made
    local_made n =
        local_then (local_sign n New) (λ at.
        local_then (local_name n) (λ w.
        local_last (λ fs. e.New at (bean_number names w) fs) (local_opening n OpenBlock (λ m _. local_listing m CloseBlock (local_field m)))))

    local_primary_of : (n : ℕ) (t : Token) → Local (table.primary_of step names n inner t)
    unfolding table.got table.all_of table.static_of
    local_primary_of n (Sign Null) = local_last (λ at. e.Null at) (local_sign n Null)
    local_primary_of n (Sign True) = local_last (λ at. e.Bool at true) (local_sign n True)
    local_primary_of n (Sign False) = local_last (λ at. e.Bool at false) (local_sign n False)
    local_primary_of n (Number v) = local_then local_here (λ at. local_last (λ x. e.Long at x) (local_number n))
    local_primary_of n (Str v) = local_then local_here (λ at. local_last (λ x. e.Str at x) (local_text n))
    local_primary_of n (Name v) = local_then local_here (λ at. local_last (λ x. e.Name at x) (local_name n))
    local_primary_of n (Sign Open) = local_paren n
    local_primary_of n (Sign OpenList) = local_listed n
    local_primary_of n (Sign New) = local_made n
    local_primary_of n (Sign Get) = local_allowed step n (local_then (local_sign n Get) (λ at. local_last (λ w. e.Get at (item_number names w)) (local_name n)))
    local_primary_of n (Sign All) = local_allowed step n (local_then (local_sign n All) (λ at. local_last (λ w. e.All at (item_number names w)) (local_name n)))
    local_primary_of n (Sign Me) = local_allowed (not step) n (local_last (λ at. e.Me at) (local_sign n Me))
    local_primary_of n (Sign Static) =
        local_allowed (not step) n (local_then (local_sign n Static) (λ at. local_then (local_sign n Dot) (λ _. local_last (λ f. e.StaticOf at f) (local_name n))))
    local_primary_of n _ = local_nothing n

    local_primary : (n : ℕ) → Local (table.primary step names n inner)
    unfolding table.primary
    local_primary n = local_first n (table.primary_of step names n inner) (local_primary_of n)

    local_postfix : (n : ℕ) → Local (table.postfix step names n inner)
    unfolding table.postfix
    local_postfix n =
        local_then (local_primary n) (λ x.
        local_optional (is Dot) (table.link step names n ⟫= λ l. more (is Dot) (table.link step names n) (l ∷ []) ⟫= λ ls. give (e.Fields x ls)) x
        (local_then (local_link n) (λ l. local_last (λ ls. e.Fields x ls) (local_more (is Dot) (table.link step names n) (local_link n) (l ∷ [])))))

  module _ (n : ℕ) (u : Form Expr) (lu : Local u) where
    local_sum : Local (table.sum step names n u)
    unfolding table.sum
    local_sum = local_chain n Plus e.Sum lu

    local_compared_of : (x : Expr) (t : Token) → Local (table.compared_of step names n (table.sum step names n u) x t)
    local_compared_of x (Sign Equal) = local_then (local_sign n Equal) (λ s. local_last (λ y. e.Equal x s y) local_sum)
    local_compared_of x (Sign Less) = local_then (local_sign n Less) (λ s. local_last (λ y. e.Less x s y) local_sum)
    local_compared_of x _ = local_nothing n

    local_comparison : Local (table.comparison step names n (table.sum step names n u))
    unfolding table.comparison
    local_comparison =
        local_then local_sum (λ x.
        local_optional compares (by_first n (table.compared_of step names n (table.sum step names n u) x)) x (local_first n (table.compared_of step names n (table.sum step names n u) x) (local_compared_of x)))

    local_expr_of : Local (table.expr_of step names n u)
    unfolding table.expr_of
    local_expr_of = local_chain n And e.Both local_comparison

  module _ (n : ℕ) (lu : Local (table.unary step names n)) where
    local_unary_of : (t : Token) → Local (table.unary_of step names n (table.unary step names n) t)
    local_unary_of (Sign Bang) = local_then (local_sign (suc n) Bang) (λ at. local_last (λ x. e.Not at x) lu)
    local_unary_of (Sign Len) = local_then (local_sign (suc n) Len) (λ at. local_last (λ x. e.Len at x) lu)
    local_unary_of _ = local_postfix (table.expr_of step names n (table.unary step names n)) (local_expr_of n (table.unary step names n) lu) (suc n)

  local_unary : (n : ℕ) → Local (table.unary step names n)
  unfolding table.unary
  local_unary zero = local_postfix (nothing 0) (local_nothing 0) 0
  local_unary (suc n) = local_first (suc n) (table.unary_of step names n (table.unary step names n)) (local_unary_of n (local_unary n))

  pub local_expr : (n : ℕ) → Local (table.expr step names n)
  unfolding table.expr
  local_expr n = local_expr_of n (table.unary step names n) (local_unary n)

  pub local_inner : (n : ℕ) → Local (table.inner step names n)
  unfolding table.inner
  local_inner zero = local_nothing 0
  local_inner (suc n) = local_expr n
