-- The tokens of an expression that was read, all of whose names are right, are those it was read from.
use Rattle.std.proofs.Common.{◌≡◌, ℕ, zero, suc, Bool, true, false, List, [], ◌∷◌, ◌++◌, map, refl, sym, ap, ◌∙◌}
use Rattle.std.specs.Prelude.{not, ◌==◌}
use Rattle.std.proofs.lemmas.List.{append-nil}
use Rattle.lang_lexer.specs.declared.token.Mark.TheVariants.{Get, All, New, Len, True, False, Null, Me, Static, Comma, Dot, Colon, Open, Close, OpenList, CloseList, OpenBlock, CloseBlock, Equal, Less, Plus, Bang, And}
use Rattle.lang_lexer.specs.declared.token.Token.{Token}
use Rattle.lang_lexer.specs.declared.token.Token.TheVariants.{Sign, Number, Str, Name}
use Rattle.syntax_tree.specs.declared.tree.Link.{Link}
use Rattle.syntax_tree.specs.declared.tree.Expr.{Expr}
use Rattle.syntax_tree.specs.declared.tree.Expr.TheVariants as e
use Rattle.item_types.specs.Named.{fields_of}
use Rattle.std.specs.Prelude.{slice_get}
use Rattle.lang_grammar.specs.Place.{is}
use Rattle.syntax_tree.specs.Naming.{item_number, bean_number}
use Rattle.lang_grammar.specs.Forms.{Form, nothing}
use Rattle.lang_grammar.specs.Table as table
use Rattle.lang_grammar.specs.Table.{compares}
use Rattle.lang_names.specs.Checked.{right, and_also, later}
use Rattle.syntax_tree.specs.Undeclared.{no_number}
use Rattle.syntax_tree.specs.Known.{Known}
use Rattle.lang_names.specs.Exprs.{Told, told_of, taken_right, get_right, all_right, new_right, bean_right, name_right, fields_right, all_checked, with_told, link_right}
use Rattle.lang_print.specs.Tokens.{parted, together, link_tokens, field_tokens, paren_tokens, expr_tokens, with_tokens}
use Rattle.lang_names.proofs.CallerLemmas.{both_left, both_right, known_number, checks_get, checks_all, checks_new, checks_listof, checks_fields, checks_len, checks_not, checks_sum, checks_both, checks_equal, checks_less, checks_paren}
use Rattle.lang_grammar.proofs.CallerLemmas.{Holds, holds_nothing, holds_give, holds_form, holds_last, holds_sign, holds_name, holds_number, holds_text, holds_here, holds_first, holds_optional, holds_allowed, holds_opening, Parts, holds_more}
use Rattle.lang_round.proofs.Holding.{Prints, AllGood, holds_listing, holds_chain}
use Rattle.lang_round.proofs.Placed.{item_named, bean_named}
use Rattle.lang_round.proofs.Unrolled.{tokens_null, tokens_bool, tokens_long, tokens_str, tokens_name, tokens_get, tokens_all, tokens_new, tokens_listof, tokens_fields, tokens_len, tokens_not, tokens_sum, tokens_both, tokens_equal, tokens_less, tokens_paren, tokens_me, tokens_staticof}

module _ (step : Bool) (k : Known) (s : List (List ℕ)) where
  abbrev pub pr : Expr → List Token
  pr = expr_tokens k.names

  abbrev pub Good : Expr → Type 0
  Good x = (told_of k x).check s ≡ right

  abbrev pub Fine : Expr → List Token → Type 0
  Fine = Prints Good pr

  pub all_good : (parts : List Expr) → all_checked (map (told_of k) parts) s ≡ right → AllGood Good pr parts
  all_good [] g = tt
  all_good (x ∷ xs) g = (both_left ((told_of k x).check s) (all_checked (map (told_of k) xs) s) g, all_good xs (both_right ((told_of k x).check s) (all_checked (map (told_of k) xs) s) g))

  -- ---- fields of beans

  abbrev pr_field : List ℕ × Expr → List Token
  pr_field f = field_tokens (f.0, pr f.1)

  abbrev GoodField : List ℕ × Expr → Type 0
  GoodField f = Good f.1

  fields_good : (declared before : List (List ℕ)) (fs : List (List ℕ × Expr)) → fields_right declared before (with_told k fs) s ≡ right → AllGood GoodField pr_field fs
  fields_good declared before [] g = tt
  fields_good declared before (f ∷ fs) g =
      let l : and_also (name_right declared before f.0 (told_of k f.1).first) ((told_of k f.1).check s) ≡ right =
      both_left (and_also (name_right declared before f.0 (told_of k f.1).first) ((told_of k f.1).check s)) (fields_right declared (before ++ f.0 ∷ []) (with_told k fs) s) g in (
        both_right (name_right declared before f.0 (told_of k f.1).first) ((told_of k f.1).check s) l,
        fields_good declared (before ++ f.0 ∷ []) fs
            (both_right (and_also (name_right declared before f.0 (told_of k f.1).first) ((told_of k f.1).check s)) (fields_right declared (before ++ f.0 ∷ []) (with_told k fs) s) g),
      )

  fields_same : (fs : List (List ℕ × Expr)) → map field_tokens (with_tokens k.names fs) ≡ map pr_field fs
  fields_same [] = refl
  fields_same (f ∷ fs) = ap (λ w. pr_field f ∷ w) (fields_same fs)

  -- ---- primaries

  module _ (inner : Form Expr) (fine : Holds inner Fine) where
    holds_paren : (n : ℕ) → Holds (table.paren step k.names n inner) Fine
    unfolding table.paren
    holds_paren n =
        holds_opening n Open (λ m at.
        holds_form fine (λ x us q.
        holds_sign m Close (λ _. holds_give (e.Paren at x) (λ g. tokens_paren k at x ∙ ap paren_tokens (q (sym (checks_paren k s at x) ∙ g))))))

    holds_list : (n : ℕ) → Holds (table.listed step k.names n inner) Fine
    unfolding table.listed
    holds_list n =
        holds_opening n OpenList (λ m at.
        holds_last {Q = λ xs zs. AllGood Good pr xs → parted Comma false (map pr xs) ++ Sign CloseList ∷ [] ≡ zs} (λ xs. e.ListOf at xs) (holds_listing Good pr m CloseList fine (λ ys zs q. q)) (λ xs zs q g.
        tokens_listof k at xs ∙ ap (λ w. Sign OpenList ∷ w) (q (all_good xs (sym (checks_listof k s at xs) ∙ g)))))

    holds_field : (n : ℕ) → Holds (table.field step k.names n inner) (Prints GoodField pr_field)
    unfolding table.field
    holds_field n = holds_name n (λ f. holds_sign n Colon (λ _. holds_last {B = List ℕ × Expr} (λ x. (f, x)) fine (λ x us q g. ap (λ w. Name f ∷ Sign Colon ∷ w) (q g))))

    new_is : (at : ℕ) (w : List ℕ) (fs : List (List ℕ × Expr)) (zs : List Token) → (AllGood GoodField pr_field fs → parted Comma false (map pr_field fs) ++ Sign CloseBlock ∷ [] ≡ zs)
        → Good (e.New at (bean_number k.names w) fs) → pr (e.New at (bean_number k.names w) fs) ≡ Sign New ∷ Name w ∷ Sign OpenBlock ∷ zs
    new_is at w fs zs q g =
        let h : bean_right k at (bean_number k.names w) (with_told k fs) s ≡ right = sym (checks_new k s at (bean_number k.names w) fs) ∙ g in
        let n : new_right k at (bean_number k.names w) (map (λ (f : List ℕ × Told). f.0) (with_told k fs)) ≡ right = both_left _ _ h in
        let c : (bean_number k.names w == no_number) ≡ false = known_number (bean_number k.names w) (later at 1) (both_left _ _ n) in
        tokens_new k at (bean_number k.names w) fs
        ∙ ap (λ x. Sign New ∷ Name x ∷ Sign OpenBlock ∷ (parted Comma false (map field_tokens (with_tokens k.names fs)) ++ Sign CloseBlock ∷ [])) (bean_named k.names w c)
        ∙ ap (λ x. Sign New ∷ Name w ∷ Sign OpenBlock ∷ x)
        (ap (λ x. parted Comma false x ++ Sign CloseBlock ∷ []) (fields_same fs) ∙ q (fields_good (fields_of (slice_get k.names.beans (bean_number k.names w))) [] fs (both_right _ _ h)))

    holds_made : (n : ℕ) → Holds (table.made step k.names n inner) Fine
    unfolding table.made
    holds_made n =
        holds_sign n New (λ at.
        holds_name n (λ w.
        holds_last {Q = λ fs zs. (ws : List Token) × (zs ≡ Sign OpenBlock ∷ ws) × (AllGood GoodField pr_field fs → parted Comma false (map pr_field fs) ++ Sign CloseBlock ∷ [] ≡ ws)} (λ fs. e.New at (bean_number k.names w) fs)
        (holds_opening n OpenBlock (λ m _. holds_listing GoodField pr_field m CloseBlock (holds_field m) (λ fs zs q. (zs, refl, q))))
        (λ fs zs q g. new_is at w fs q.0 q.2 g ∙ ap (λ x. Sign New ∷ Name w ∷ x) (sym q.1))))

    got_is : (at : ℕ) (w : List ℕ) → Good (e.Get at (item_number k.names w)) → pr (e.Get at (item_number k.names w)) ≡ Sign Get ∷ Name w ∷ []
    got_is at w g =
        let h : get_right k at (item_number k.names w) ≡ right = sym (checks_get k s at (item_number k.names w)) ∙ g in
        let t : taken_right k at (item_number k.names w) ≡ right = both_left _ _ h in
        tokens_get k at (item_number k.names w) ∙ ap (λ x. Sign Get ∷ Name x ∷ []) (item_named k.names w (known_number (item_number k.names w) (later at 1) (both_left _ _ t)))

    all_is : (at : ℕ) (w : List ℕ) → Good (e.All at (item_number k.names w)) → pr (e.All at (item_number k.names w)) ≡ Sign All ∷ Name w ∷ []
    all_is at w g =
        let h : all_right k at (item_number k.names w) ≡ right = sym (checks_all k s at (item_number k.names w)) ∙ g in
        let t : taken_right k at (item_number k.names w) ≡ right = both_left _ _ h in
        tokens_all k at (item_number k.names w) ∙ ap (λ x. Sign All ∷ Name x ∷ []) (item_named k.names w (known_number (item_number k.names w) (later at 1) (both_left _ _ t)))

    holds_primary_of : (n : ℕ) (t : Token) → Holds (table.primary_of step k.names n inner t) Fine
    unfolding table.got table.all_of table.static_of
    holds_primary_of n (Sign Null) = holds_sign n Null (λ at. holds_give (e.Null at) (λ g. tokens_null k at))
    holds_primary_of n (Sign True) = holds_sign n True (λ at. holds_give (e.Bool at true) (λ g. tokens_bool k at true))
    holds_primary_of n (Sign False) = holds_sign n False (λ at. holds_give (e.Bool at false) (λ g. tokens_bool k at false))
    holds_primary_of n (Number v) = holds_here (λ at. holds_number n (λ x. holds_give (e.Long at x) (λ g. tokens_long k at x)))
    holds_primary_of n (Str v) = holds_here (λ at. holds_text n (λ x. holds_give (e.Str at x) (λ g. tokens_str k at x)))
    holds_primary_of n (Name v) = holds_here (λ at. holds_name n (λ x. holds_give (e.Name at x) (λ g. tokens_name k at x)))
    holds_primary_of n (Sign Open) = holds_paren n
    holds_primary_of n (Sign OpenList) = holds_list n
    holds_primary_of n (Sign New) = holds_made n
    holds_primary_of n (Sign Get) = holds_allowed step n (holds_sign n Get (λ at. holds_name n (λ w. holds_give (e.Get at (item_number k.names w)) (got_is at w))))
    holds_primary_of n (Sign All) = holds_allowed step n (holds_sign n All (λ at. holds_name n (λ w. holds_give (e.All at (item_number k.names w)) (all_is at w))))
    holds_primary_of n (Sign Me) = holds_allowed (not step) n (holds_sign n Me (λ at. holds_give (e.Me at) (λ g. tokens_me k at)))
    holds_primary_of n (Sign Static) = holds_allowed (not step) n (holds_sign n Static (λ at. holds_sign n Dot (λ _. holds_name n (λ f. holds_give (e.StaticOf at f) (λ g. tokens_staticof k at f)))))
    holds_primary_of n _ = holds_nothing n

    holds_primary : (n : ℕ) → Holds (table.primary step k.names n inner) Fine
    unfolding table.primary
    holds_primary n = holds_first n (holds_primary_of n)

    -- ---- chains of fields

    holds_link : (n : ℕ) → Holds (table.link step k.names n) (λ l us. link_tokens l ≡ us)
    unfolding table.link
    holds_link n = holds_sign n Dot (λ dot. holds_name n (λ f. holds_give {A = Link} (record { dot = dot; field = f }) refl))

    links_together : (ls : List Link) (zs : List Token) → Parts (λ (l : Link) us. link_tokens l ≡ us) ls zs → together (map link_tokens ls) ≡ zs
    links_together [] zs h = sym h
    links_together (l ∷ ls) zs h = ap (λ w. w ++ together (map link_tokens ls)) h.3 ∙ ap (λ w. h.0 ++ w) (links_together ls h.1 h.4) ∙ sym h.2

    holds_postfix : (n : ℕ) → Holds (table.postfix step k.names n inner) Fine
    unfolding table.postfix
    holds_postfix n =
        holds_form (holds_primary n) (λ x us q.
        holds_optional (is Dot) x
        (holds_form (holds_link n) (λ l vs r.
        holds_last {Q = λ ls zs. together (map link_tokens ls) ≡ vs ++ zs} (λ ls. e.Fields x ls)
        (holds_more (is Dot) (l ∷ []) (holds_link n) (λ ls zs h. ap (λ w. w ++ together (map link_tokens ls)) r ∙ ap (λ w. vs ++ w) (links_together ls zs h)))
        (λ ls zs h g.
        tokens_fields k x ls ∙ ap (λ w. w ++ together (map link_tokens ls)) (q (both_left ((told_of k x).check s) (link_right k (told_of k x).me ls) (sym (checks_fields k s x ls) ∙ g)))
        ∙ ap (λ w. us ++ w) h)))
        (λ g. q g ∙ sym (append-nil us)))

  -- ---- comparisons, sums and conjunctions of unaries

  module _ (n : ℕ) (u : Form Expr) (fine : Holds u Fine) where
    holds_sum : Holds (table.sum step k.names n u) Fine
    unfolding table.sum
    holds_sum = holds_chain Good pr n Plus e.Sum (λ parts signs. tokens_sum k parts signs) (λ parts signs g. all_good parts (sym (checks_sum k s parts signs) ∙ g)) fine

    equal_is : (x y : Expr) (c : ℕ) (us vs : List Token) → Fine x us → Fine y vs → Good (e.Equal x c y) → pr (e.Equal x c y) ≡ us ++ Sign Equal ∷ vs
    equal_is x y c us vs p q g =
        let h : and_also ((told_of k x).check s) ((told_of k y).check s) ≡ right = sym (checks_equal k s x c y) ∙ g in
        tokens_equal k x c y ∙ ap (λ w. w ++ Sign Equal ∷ pr y) (p (both_left ((told_of k x).check s) ((told_of k y).check s) h))
        ∙ ap (λ w. us ++ Sign Equal ∷ w) (q (both_right ((told_of k x).check s) ((told_of k y).check s) h))

    less_is : (x y : Expr) (c : ℕ) (us vs : List Token) → Fine x us → Fine y vs → Good (e.Less x c y) → pr (e.Less x c y) ≡ us ++ Sign Less ∷ vs
    less_is x y c us vs p q g =
        let h : and_also ((told_of k x).check s) ((told_of k y).check s) ≡ right = sym (checks_less k s x c y) ∙ g in
        tokens_less k x c y ∙ ap (λ w. w ++ Sign Less ∷ pr y) (p (both_left ((told_of k x).check s) ((told_of k y).check s) h))
        ∙ ap (λ w. us ++ Sign Less ∷ w) (q (both_right ((told_of k x).check s) ((told_of k y).check s) h))

    holds_compared_of : (x : Expr) (us : List Token) → Fine x us → (t : Token) → Holds (table.compared_of step k.names n (table.sum step k.names n u) x t) (λ y ys. Fine y (us ++ ys))
    holds_compared_of x us q (Sign Equal) = holds_sign n Equal (λ c. holds_last (λ y. e.Equal x c y) holds_sum (λ y vs r. equal_is x y c us vs q r))
    holds_compared_of x us q (Sign Less) = holds_sign n Less (λ c. holds_last (λ y. e.Less x c y) holds_sum (λ y vs r. less_is x y c us vs q r))
    holds_compared_of x us q _ = holds_nothing n

    holds_comparison : Holds (table.comparison step k.names n (table.sum step k.names n u)) Fine
    unfolding table.comparison
    holds_comparison = holds_form holds_sum (λ x us q. holds_optional compares x (holds_first n (holds_compared_of x us q)) (λ g. q g ∙ sym (append-nil us)))

    holds_expr_of : Holds (table.expr_of step k.names n u) Fine
    unfolding table.expr_of
    holds_expr_of = holds_chain Good pr n And e.Both (λ parts signs. tokens_both k parts signs) (λ parts signs g. all_good parts (sym (checks_both k s parts signs) ∙ g)) holds_comparison

  -- ---- unaries, by how many more may be open

  holds_unary_of : (n : ℕ) → Holds (table.unary step k.names n) Fine → (t : Token) → Holds (table.unary_of step k.names n (table.unary step k.names n) t) Fine
  holds_unary_of n fine (Sign Bang) = holds_sign (suc n) Bang (λ at. holds_last (λ x. e.Not at x) fine (λ x us q g. tokens_not k at x ∙ ap (λ w. Sign Bang ∷ w) (q (sym (checks_not k s at x) ∙ g))))
  holds_unary_of n fine (Sign Len) = holds_sign (suc n) Len (λ at. holds_last (λ x. e.Len at x) fine (λ x us q g. tokens_len k at x ∙ ap (λ w. Sign Len ∷ w) (q (sym (checks_len k s at x) ∙ g))))
  holds_unary_of n fine _ = holds_postfix (table.expr_of step k.names n (table.unary step k.names n)) (holds_expr_of n (table.unary step k.names n) fine) (suc n)

  holds_unary : (n : ℕ) → Holds (table.unary step k.names n) Fine
  unfolding table.unary
  holds_unary zero = holds_postfix (nothing 0) (holds_nothing 0) 0
  holds_unary (suc n) = holds_first (suc n) (holds_unary_of n (holds_unary n))

  pub holds_expr : (n : ℕ) → Holds (table.expr step k.names n) Fine
  unfolding table.expr
  holds_expr n = holds_expr_of n (table.unary step k.names n) (holds_unary n)

  pub holds_inner : (n : ℕ) → Holds (table.inner step k.names n) Fine
  unfolding table.inner
  holds_inner zero = holds_nothing 0
  holds_inner (suc n) = holds_expr n
