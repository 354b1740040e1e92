-- The table of forms is read rightly by the rules, form by form.
use Rattle.std.proofs.Common.{◌≡◌, ℕ, zero, suc, Bool, true, false, List, [], ◌∷◌, Ok, refl, ap, subst, ◌∙◌, if◌then◌else◌}
use Rattle.std.specs.Prelude.{◌||◌, not, Some}
use Rattle.lang_lexer.specs.declared.token.Mark.TheVariants.{Get, All, New, Len, True, False, Null, Me, Static, Dot, Colon, Open, Close, OpenList, CloseList, OpenBlock, CloseBlock, Equal, Less, Plus, Bang, And}
use Rattle.lang_lexer.specs.declared.token.Token.{Token}
use Rattle.lang_lexer.specs.declared.token.Token.TheVariants.{Sign, Number, Str, Name}
use Rattle.syntax_tree.specs.declared.tree.Link.{Link}
use Rattle.syntax_tree.specs.declared.tree.Expr.{Expr}
use Rattle.syntax_tree.specs.declared.tree.Expr.TheVariants as e
use Rattle.item_types.specs.declared.decl.Names.{Names}
use Rattle.lang_grammar.specs.Place.{Parser, is, begins, refuse, ◌>>=◌, pure}
use Rattle.syntax_tree.specs.Naming.{item_number, bean_number}
use Rattle.lang_grammar.specs.Forms.{Form, nothing, give, sign, name, number, text, ◌⟫=◌, by_first, optional, more, opening, listing}
use Rattle.lang_grammar.specs.Table as table
use Rattle.lang_grammar.specs.Table.{compares}
use Rattle.lang_grammar.specs.Rules as rules
use Rattle.lang_grammar.proofs.Right.{Right, Starts, none, begins_left, right_nothing, right_give, right_here, right_sign, right_name, right_number, right_text, right_bind, right_then, right_till, right_last}
use Rattle.lang_grammar.proofs.Words.{is_name, any, starts_any, starts_sign, starts_bind, starts_first, starts_name, starts_here, starts_allowed, starts_chain, right_first, right_optional, right_more, right_listing, right_chain, right_allowed, right_denied, right_opened, starts_one, starts_any_name, starts_any_number, starts_any_text, starts_any_opening, follow_optional, right_same, and_then_then, with_sign}

-- the tokens that may carry on a postfix, a sum, a comparison, an expression
abbrev pub carries_postfix : Token → Bool
carries_postfix = with_sign none Dot

abbrev pub carries_sum : Token → Bool
carries_sum = with_sign carries_postfix Plus

abbrev pub carries_comparison : Token → Bool
carries_comparison t = carries_sum t || compares t

abbrev pub carries_expr : Token → Bool
carries_expr = with_sign carries_comparison And

-- the tokens that begin an expression in some text
abbrev pub begins_expr : Token → Bool
begins_expr (Sign Null) = true
begins_expr (Sign True) = true
begins_expr (Sign False) = true
begins_expr (Number v) = true
begins_expr (Str v) = true
begins_expr (Name v) = true
begins_expr (Sign Open) = true
begins_expr (Sign OpenList) = true
begins_expr (Sign New) = true
begins_expr (Sign Get) = true
begins_expr (Sign All) = true
begins_expr (Sign Me) = true
begins_expr (Sign Static) = true
begins_expr (Sign Bang) = true
begins_expr (Sign Len) = true
begins_expr _ = false

module _ (step : Bool) (names : Names) where
  right_link : (n : ℕ) → Right (table.link step names n) (rules.link step names n) none
  unfolding table.link rules.link
  right_link n = right_then none (right_sign n Dot none) (λ dot. right_last {B = Link} (λ f. record { dot = dot; field = f }) none (right_name n none))

  starts_link : (n : ℕ) → Starts (is Dot) (table.link step names n)
  unfolding table.link
  starts_link n = starts_sign n Dot (λ dot. name n ⟫= λ f. give (let l : Link = record { dot = dot; field = f } in l))

  starts_got : (n : ℕ) → Starts any (table.got step names n)
  unfolding table.got
  starts_got n = starts_bind any (sign n Get) (λ at. name n ⟫= λ w. give (e.Get at (item_number names w))) (starts_one n Get)

  starts_all : (n : ℕ) → Starts any (table.all_of step names n)
  unfolding table.all_of
  starts_all n = starts_bind any (sign n All) (λ at. name n ⟫= λ w. give (e.All at (item_number names w))) (starts_one n All)

  starts_static : (n : ℕ) → Starts any (table.static_of step names n)
  unfolding table.static_of
  starts_static n = starts_bind any (sign n Static) (λ at. sign n Dot ⟫= λ _. name n ⟫= λ f. give (e.StaticOf at f)) (starts_one n Static)

  module _ (inner : Form Expr) (ri : Parser Expr) (right_inner : Right inner ri carries_expr) (starts_inner : Starts begins_expr inner) where
    starts_paren : (n : ℕ) → Starts any (table.paren step names n inner)
    unfolding table.paren
    starts_paren n = starts_any_opening n Open (λ m at. inner ⟫= λ x. sign m Close ⟫= λ _. give (e.Paren at x))

    starts_listed : (n : ℕ) → Starts any (table.listed step names n inner)
    unfolding table.listed
    starts_listed n = starts_any_opening n OpenList (λ m at. listing m CloseList inner ⟫= λ xs. give (e.ListOf at xs))

    starts_made : (n : ℕ) → Starts any (table.made step names n inner)
    unfolding table.made
    starts_made n =
        starts_bind any (sign n New) (λ at. name n ⟫= λ w. opening n OpenBlock (λ m _. listing m CloseBlock (table.field step names m inner)) ⟫= λ fs. give (e.New at (bean_number names w) fs)) (starts_one n New)

    right_paren : (n : ℕ) → Right (table.paren step names n inner) (rules.paren step names n ri) none
    unfolding table.paren rules.paren
    right_paren zero = right_nothing 0
    right_paren (suc n) =
        right_then none (right_opened n Open) (λ at.
        right_till Close carries_expr none right_inner refl (λ x. starts_sign n Close (λ _. give (e.Paren at x))) (λ x.
        right_then none (right_sign n Close none) (λ _. right_give (e.Paren at x))))

    right_listed : (n : ℕ) → Right (table.listed step names n inner) (rules.listed step names n ri) none
    unfolding table.listed rules.listed
    right_listed zero = right_nothing 0
    right_listed (suc n) =
        right_then none (right_opened n OpenList) (λ at.
        right_last (λ xs. e.ListOf at xs) none (right_listing n CloseList inner ri carries_expr begins_expr right_inner starts_inner refl refl refl))

    right_field : (n : ℕ) → Right (table.field step names n inner) (rules.field step names n ri) carries_expr
    unfolding table.field rules.field
    right_field n =
        right_then carries_expr (right_name n none) (λ f.
        right_then carries_expr (right_sign n Colon none) (λ _.
        right_last {B = List ℕ × Expr} (λ x. (f, x)) carries_expr right_inner))

    starts_field : (n : ℕ) → Starts is_name (table.field step names n inner)
    unfolding table.field
    starts_field n = starts_bind is_name (name n) (λ f. sign n Colon ⟫= λ _. inner ⟫= λ x. give (f, x)) (starts_name n)

    right_fields : (n : ℕ) → Right (opening n OpenBlock (λ m _. listing m CloseBlock (table.field step names m inner))) (rules.fields step names n ri) none
    unfolding rules.fields
    right_fields zero = right_nothing 0
    right_fields (suc n) =
        right_then none (right_opened n OpenBlock) (λ _.
        right_listing n CloseBlock (table.field step names n inner) (rules.field step names n ri) carries_expr is_name (right_field n) (starts_field n) refl refl refl)

    right_made : (n : ℕ) → Right (table.made step names n inner) (rules.made step names n ri) none
    unfolding table.made rules.made
    right_made n =
        right_then none (right_sign n New none) (λ at.
        right_then none (right_name n none) (λ w.
        right_last (λ fs. e.New at (bean_number names w) fs) none (right_fields n)))

    right_primary_of : (n : ℕ) (t : Token) → Right (table.primary_of step names n inner t) (rules.primary_by step names n ri (Some t)) none
    unfolding table.got rules.got table.all_of rules.all_of table.static_of rules.static_of rules.null rules.truth rules.long rules.quoted rules.variable rules.me
    right_primary_of n (Sign Null) = right_last (λ at. e.Null at) none (right_sign n Null none)
    right_primary_of n (Sign True) = right_last (λ at. e.Bool at true) none (right_sign n True none)
    right_primary_of n (Sign False) = right_last (λ at. e.Bool at false) none (right_sign n False none)
    right_primary_of n (Number v) = right_then none right_here (λ at. right_last (λ x. e.Long at x) none (right_number n none))
    right_primary_of n (Str v) = right_then none right_here (λ at. right_last (λ x. e.Str at x) none (right_text n none))
    right_primary_of n (Name v) = right_then none right_here (λ at. right_last (λ x. e.Name at x) none (right_name n none))
    right_primary_of n (Sign Open) = right_paren n
    right_primary_of n (Sign OpenList) = right_listed n
    right_primary_of n (Sign New) = right_made n
    right_primary_of n (Sign Get) = right_allowed n step (right_then none (right_sign n Get none) (λ at. right_last (λ w. e.Get at (item_number names w)) none (right_name n none)))
    right_primary_of n (Sign All) = right_allowed n step (right_then none (right_sign n All none) (λ at. right_last (λ w. e.All at (item_number names w)) none (right_name n none)))
    right_primary_of n (Sign Me) = right_denied n step (right_last (λ at. e.Me at) none (right_sign n Me none))
    right_primary_of n (Sign Static) =
        right_denied n step (right_then none (right_sign n Static none) (λ at. right_then none (right_sign n Dot none) (λ _. right_last (λ f. e.StaticOf at f) none (right_name n none))))
    right_primary_of n _ = right_nothing n

    starts_primary_of : (n : ℕ) (t : Token) → Starts any (table.primary_of step names n inner t)
    starts_primary_of n (Sign Null) = starts_bind any (sign n Null) (λ at. give (e.Null at)) (starts_one n Null)
    starts_primary_of n (Sign True) = starts_bind any (sign n True) (λ at. give (e.Bool at true)) (starts_one n True)
    starts_primary_of n (Sign False) = starts_bind any (sign n False) (λ at. give (e.Bool at false)) (starts_one n False)
    starts_primary_of n (Number v) = starts_here any (λ at. number n ⟫= λ x. give (e.Long at x)) (λ at. starts_bind any (number n) (λ x. give (e.Long at x)) (starts_any_number n))
    starts_primary_of n (Str v) = starts_here any (λ at. text n ⟫= λ x. give (e.Str at x)) (λ at. starts_bind any (text n) (λ x. give (e.Str at x)) (starts_any_text n))
    starts_primary_of n (Name v) = starts_here any (λ at. name n ⟫= λ x. give (e.Name at x)) (λ at. starts_bind any (name n) (λ x. give (e.Name at x)) (starts_any_name n))
    starts_primary_of n (Sign Open) = starts_paren n
    starts_primary_of n (Sign OpenList) = starts_listed n
    starts_primary_of n (Sign New) = starts_made n
    starts_primary_of n (Sign Get) = starts_allowed (table.got step names n) any n step (starts_got n)
    starts_primary_of n (Sign All) = starts_allowed (table.all_of step names n) any n step (starts_all n)
    starts_primary_of n (Sign Me) = starts_allowed (sign n Me ⟫= λ at. give (e.Me at)) any n (not step) (starts_bind any (sign n Me) (λ at. give (e.Me at)) (starts_one n Me))
    starts_primary_of n (Sign Static) = starts_allowed (table.static_of step names n) any n (not step) (starts_static n)
    starts_primary_of n _ = λ k x xs h. absurd h

    begun_primary : (n : ℕ) (t : Token) (k : ℕ) (x : Expr) (xs : List Token) → (table.primary_of step names n inner t).Is k x xs → begins_expr t ≡ true
    begun_primary n (Sign Null) k x xs h = refl
    begun_primary n (Sign True) k x xs h = refl
    begun_primary n (Sign False) k x xs h = refl
    begun_primary n (Number v) k x xs h = refl
    begun_primary n (Str v) k x xs h = refl
    begun_primary n (Name v) k x xs h = refl
    begun_primary n (Sign Open) k x xs h = refl
    begun_primary n (Sign OpenList) k x xs h = refl
    begun_primary n (Sign New) k x xs h = refl
    begun_primary n (Sign Get) k x xs h = refl
    begun_primary n (Sign All) k x xs h = refl
    begun_primary n (Sign Me) k x xs h = refl
    begun_primary n (Sign Static) k x xs h = refl
    begun_primary n _ k x xs h = absurd h

    right_primary : (n : ℕ) → Right (table.primary step names n inner) (rules.primary step names n ri) none
    unfolding table.primary rules.primary
    right_primary n = right_first n (table.primary_of step names n inner) (rules.primary_by step names n ri) none (λ k. refl) (right_primary_of n) (starts_primary_of n)

    starts_primary : (n : ℕ) → Starts begins_expr (table.primary step names n inner)
    unfolding table.primary
    starts_primary n = starts_first begins_expr n (table.primary_of step names n inner) (begun_primary n)

    abbrev links_form : ℕ → Expr → Form Expr
    links_form n x = table.link step names n ⟫= λ l. more (is Dot) (table.link step names n) (l ∷ []) ⟫= λ ls. give (e.Fields x ls)

    right_links : (n : ℕ) (x : Expr) → Right (links_form n x) (rules.links step names n >>= λ ls. pure (e.Fields x ls)) (λ t. none t || is Dot t)
    unfolding rules.links
    right_links n x =
        right_same (rules.link step names n >>= λ l. rules.more (is Dot) n (rules.link step names n) (l ∷ []) >>= λ ls. pure (e.Fields x ls)) (rules.links step names n >>= λ ls. pure (e.Fields x ls))
        (λ p. and_then_then (rules.link step names n p) (λ l. rules.more (is Dot) n (rules.link step names n) (l ∷ [])) (λ ls. pure (e.Fields x ls)))
        (right_then (λ t. none t || is Dot t) (right_link n) (λ l. right_last (λ ls. e.Fields x ls) (λ t. none t || is Dot t) (right_more (is Dot) n (table.link step names n) (rules.link step names n) none (right_link n) (starts_link n) (λ t h. refl) (l ∷ []))))

    right_postfix : (n : ℕ) → Right (table.postfix step names n inner) (rules.postfix step names n ri) carries_postfix
    unfolding table.postfix rules.postfix
    right_postfix n =
        right_then carries_postfix (right_primary n) (λ x.
        right_optional (is Dot) (links_form n x) x (rules.links step names n >>= λ ls. pure (e.Fields x ls)) (λ t. none t || is Dot t) (right_links n x)
        (starts_bind (is Dot) (table.link step names n) (λ l. more (is Dot) (table.link step names n) (l ∷ []) ⟫= λ ls. give (e.Fields x ls)) (starts_link n)))

    starts_postfix : (n : ℕ) → Starts begins_expr (table.postfix step names n inner)
    unfolding table.postfix
    starts_postfix n = starts_bind begins_expr (table.primary step names n inner) (λ x. optional (is Dot) (links_form n x) x) (starts_primary n)

  -- ---- comparisons, sums and conjunctions of unaries

  module _ (n : ℕ) (u : Form Expr) (ru : Parser Expr) (right_u : Right u ru carries_postfix) (starts_u : Starts begins_expr u) where
    right_sum : Right (table.sum step names n u) (rules.sum step names n ru) carries_sum
    unfolding table.sum rules.sum
    right_sum = right_chain n Plus e.Sum u ru carries_postfix right_u refl

    starts_sum : Starts begins_expr (table.sum step names n u)
    unfolding table.sum
    starts_sum = starts_chain n Plus e.Sum u begins_expr starts_u

    right_compared_of : (x : Expr) (t : Token) → Right (table.compared_of step names n (table.sum step names n u) x t) (rules.compared_by step names n (rules.sum step names n ru) x (Some t)) carries_sum
    right_compared_of x (Sign Equal) = right_then carries_sum (right_sign n Equal none) (λ s. right_last (λ y. e.Equal x s y) carries_sum right_sum)
    right_compared_of x (Sign Less) = right_then carries_sum (right_sign n Less none) (λ s. right_last (λ y. e.Less x s y) carries_sum right_sum)
    right_compared_of x _ = right_nothing n

    starts_compared_of : (x : Expr) (t : Token) → Starts any (table.compared_of step names n (table.sum step names n u) x t)
    starts_compared_of x (Sign Equal) = starts_bind any (sign n Equal) (λ s. table.sum step names n u ⟫= λ y. give (e.Equal x s y)) (starts_one n Equal)
    starts_compared_of x (Sign Less) = starts_bind any (sign n Less) (λ s. table.sum step names n u ⟫= λ y. give (e.Less x s y)) (starts_one n Less)
    starts_compared_of x _ = λ k y xs h. absurd h

    begun_compared : (x : Expr) (t : Token) (k : ℕ) (y : Expr) (xs : List Token) → (table.compared_of step names n (table.sum step names n u) x t).Is k y xs → compares t ≡ true
    begun_compared x (Sign Equal) k y xs h = refl
    begun_compared x (Sign Less) k y xs h = refl
    begun_compared x _ k y xs h = absurd h

    abbrev compared_form : Expr → Form Expr
    compared_form x = by_first n (table.compared_of step names n (table.sum step names n u) x)

    right_compared : (x : Expr) → Right (compared_form x) (rules.compared step names n (rules.sum step names n ru) x) carries_sum
    unfolding rules.compared
    right_compared x = right_first n (table.compared_of step names n (table.sum step names n u) x) (rules.compared_by step names n (rules.sum step names n ru) x) carries_sum (λ k. refl) (right_compared_of x) (starts_compared_of x)

    starts_compared : (x : Expr) → Starts compares (compared_form x)
    starts_compared x = starts_first compares n (table.compared_of step names n (table.sum step names n u) x) (begun_compared x)

    sums_apart : (t : Token) → compares t ≡ true → carries_sum t ≡ false
    sums_apart (Sign Dot) h = cc
    sums_apart (Sign Plus) h = cc
    sums_apart _ h = refl

    right_comparison : Right (table.comparison step names n (table.sum step names n u)) (rules.comparison step names n (rules.sum step names n ru)) carries_comparison
    unfolding table.comparison rules.comparison
    right_comparison =
        right_bind (table.sum step names n u) (λ x. optional compares (compared_form x) x) (rules.sum step names n ru)
        (λ x p. if begins compares p.rest then rules.compared step names n (rules.sum step names n ru) x p else Ok (x, p)) carries_sum carries_comparison carries_comparison right_sum
        (λ x. right_optional compares (compared_form x) x (rules.compared step names n (rules.sum step names n ru) x) carries_sum (right_compared x) (starts_compared x))
        (λ x. follow_optional compares carries_sum carries_comparison (compared_form x) x (starts_compared x) sums_apart (λ rest e. begins_left carries_sum compares rest e))
        (λ rest e. e)

    starts_comparison : Starts begins_expr (table.comparison step names n (table.sum step names n u))
    unfolding table.comparison
    starts_comparison = starts_bind begins_expr (table.sum step names n u) (λ x. optional compares (compared_form x) x) starts_sum

    right_expr_of : Right (table.expr_of step names n u) (rules.expr_of step names n ru) carries_expr
    unfolding table.expr_of rules.expr_of
    right_expr_of = right_chain n And e.Both (table.comparison step names n (table.sum step names n u)) (rules.comparison step names n (rules.sum step names n ru)) carries_comparison right_comparison refl

    starts_expr_of : Starts begins_expr (table.expr_of step names n u)
    unfolding table.expr_of
    starts_expr_of = starts_chain n And e.Both (table.comparison step names n (table.sum step names n u)) begins_expr starts_comparison

  -- ---- unaries, by how many more may be open

  nothing_starts : (kind : Token → Bool) → Starts kind (nothing {A = Expr} 0)
  nothing_starts kind k x xs h = absurd h

  module _ (n : ℕ) (right_u : Right (table.unary step names n) (rules.unary step names n) carries_postfix) (starts_u : Starts begins_expr (table.unary step names n)) where
    abbrev inner_form : Form Expr
    inner_form = table.expr_of step names n (table.unary step names n)

    abbrev inner_rule : Parser Expr
    inner_rule = rules.expr_of step names n (rules.unary step names n)

    right_in : Right inner_form inner_rule carries_expr
    right_in = right_expr_of n (table.unary step names n) (rules.unary step names n) right_u starts_u

    starts_in : Starts begins_expr inner_form
    starts_in = starts_expr_of n (table.unary step names n) (rules.unary step names n) right_u starts_u

    right_unary_of : (t : Token) → Right (table.unary_of step names n (table.unary step names n) t) (rules.unary_by step names n (rules.unary step names n) (Some t)) carries_postfix
    right_unary_of (Sign Bang) = right_then carries_postfix (right_sign (suc n) Bang none) (λ at. right_last (λ x. e.Not at x) carries_postfix right_u)
    right_unary_of (Sign Len) = right_then carries_postfix (right_sign (suc n) Len none) (λ at. right_last (λ x. e.Len at x) carries_postfix right_u)
    right_unary_of _ = right_postfix inner_form inner_rule right_in starts_in (suc n)

    starts_unary_of : (t : Token) → Starts any (table.unary_of step names n (table.unary step names n) t)
    starts_unary_of (Sign Bang) = starts_bind any (sign (suc n) Bang) (λ at. table.unary step names n ⟫= λ x. give (e.Not at x)) (starts_one (suc n) Bang)
    starts_unary_of (Sign Len) = starts_bind any (sign (suc n) Len) (λ at. table.unary step names n ⟫= λ x. give (e.Len at x)) (starts_one (suc n) Len)
    starts_unary_of _ = starts_any begins_expr (table.postfix step names (suc n) inner_form) (starts_postfix inner_form inner_rule right_in starts_in (suc n))

    begins_unary_by : (t : Token) (k : ℕ) (x : Expr) (ts : List Token) → (table.unary_of step names n (table.unary step names n) t).Is k x (t ∷ ts) → begins_expr t ≡ true
    begins_unary_by (Sign Bang) k x ts h = refl
    begins_unary_by (Sign Len) k x ts h = refl
    begins_unary_by t k x ts h = starts_postfix inner_form inner_rule right_in starts_in (suc n) k x (t ∷ ts) h

  right_unary : (n : ℕ) → Right (table.unary step names n) (rules.unary step names n) carries_postfix × Starts begins_expr (table.unary step names n)
  unfolding table.unary rules.unary
  right_unary zero =
      (right_postfix (nothing 0) (refuse 0) (right_nothing 0) (nothing_starts begins_expr) 0, starts_postfix (nothing 0) (refuse 0) (right_nothing 0) (nothing_starts begins_expr) 0)
  right_unary (suc n) =
      let r = right_unary n in (
        right_first (suc n) (table.unary_of step names n (table.unary step names n)) (rules.unary_by step names n (rules.unary step names n)) carries_postfix (λ k. refl) (right_unary_of n r.0 r.1) (starts_unary_of n r.0 r.1),
        (λ k x xs h. ap (begins begins_expr) h.2 ∙ begins_unary_by n r.0 r.1 h.0 k x h.1 (subst (λ w. (table.unary_of step names n (table.unary step names n) h.0).Is k x w) h.2 h.3)),
      )

  pub right_expr : (n : ℕ) → Right (table.expr step names n) (rules.expr step names n) carries_expr
  unfolding table.expr rules.expr
  right_expr n = right_expr_of n (table.unary step names n) (rules.unary step names n) (right_unary n).0 (right_unary n).1

  pub starts_expr : (n : ℕ) → Starts begins_expr (table.expr step names n)
  unfolding table.expr
  starts_expr n = starts_expr_of n (table.unary step names n) (rules.unary step names n) (right_unary n).0 (right_unary n).1

  pub right_inner : (n : ℕ) → Right (table.inner step names n) (rules.inner step names n) carries_expr
  unfolding table.inner
  right_inner zero = right_nothing 0
  right_inner (suc n) = right_expr n

  pub starts_inner : (n : ℕ) → Starts begins_expr (table.inner step names n)
  unfolding table.inner
  starts_inner zero = nothing_starts begins_expr
  starts_inner (suc n) = starts_expr n
