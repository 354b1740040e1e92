-- One turn of the loops over parts, fields and statements.
use Rattle.std.proofs.Common.{◌≡◌, ℕ, ◌+◌, ◌<◌, Bool, true, List, ◌∷◌, ◌++◌, map, drop, length, get_or, refl, ap, sym, ◌∙◌}
use Rattle.std.proofs.lemmas.List.{at_drop_more}
use Rattle.item_types.specs.declared.decl.Names.{Names}
use Rattle.lang_lexer.specs.declared.token.Mark.{Mark}
use Rattle.lang_lexer.specs.declared.token.Mark.TheVariants.{Comma, Colon, Equal, Less}
use Rattle.lang_lexer.specs.declared.token.Token.{Token}
use Rattle.lang_lexer.specs.declared.token.Token.TheVariants.{Sign, Name}
use Rattle.syntax_tree.specs.declared.tree.Expr.{Expr}
use Rattle.syntax_tree.specs.declared.tree.Expr.TheVariants as v
use Rattle.syntax_tree.specs.declared.tree.Expr.TheVariants.{rolls-Equal, rolls-Less}
use Rattle.syntax_tree.specs.declared.tree.Expr.TheFolds.{fold-roll-Expr}
use Rattle.syntax_tree.specs.declared.tree.Expr.TheOpen as one
use Rattle.syntax_tree.specs.declared.tree.Stmt.{Stmt}
use Rattle.std.proofs.Common.{Option, Some, None}
use Rattle.syntax_tree.specs.declared.tree.Stmt.TheVariants as b
use Rattle.syntax_tree.specs.declared.tree.Stmt.TheVariants.{rolls-If}
use Rattle.syntax_tree.specs.declared.tree.Stmt.TheFolds.{fold-roll-Stmt}
use Rattle.syntax_tree.specs.declared.tree.Stmt.TheOpen as each
use Rattle.lang_print.specs.Lines.{Line, put, put_all}
use Rattle.lang_print.specs.Tokens.{sign_if, parted, compared, expr_step, expr_tokens, fields_tokens, if_tokens, other_of, stmt_step, stmt_tokens, body_tokens}
use Rattle.lang_print.proofs.Puts.{put_both, put_three}

pub parts_turn : (names : Names) (m : Mark) (parts : List Expr) (i : ℕ) (later : Bool) (x : Expr) (l0 l1 l2 : Line)
    → i < length parts → x ≡ get_or parts i x → l1 ≡ put_all (sign_if later m) l0 → l2 ≡ put_all (expr_tokens names x) l1
    → put_all (parted m later (map (expr_tokens names) (drop i parts))) l0 ≡ put_all (parted m true (map (expr_tokens names) (drop (i + 1) parts))) l2
parts_turn names m parts i later x l0 l1 l2 h e p q =
    at_drop_more (λ (v : List Expr). put_all (parted m later (map (expr_tokens names) v)) l0) parts i x h
    ∙ ap (λ (y : Expr). put_all (parted m later (map (expr_tokens names) (y ∷ drop (i + 1) parts))) l0) (sym e)
    ∙ sym (put_three (sign_if later m) (expr_tokens names x) (parted m true (map (expr_tokens names) (drop (i + 1) parts))) l0 l1 l2 _ p q refl)

pub fields_turn : (names : Names) (fs : List (List ℕ × Expr)) (i : ℕ) (later : Bool) (x : List ℕ × Expr) (l0 l1 l2 l3 l4 : Line)
    → i < length fs → x ≡ get_or fs i x → l1 ≡ put_all (sign_if later Comma) l0 → l2 ≡ put (Name x.0) l1 → l3 ≡ put (Sign Colon) l2 → l4 ≡ put_all (expr_tokens names x.1) l3
    → put_all (fields_tokens names later (drop i fs)) l0 ≡ put_all (fields_tokens names true (drop (i + 1) fs)) l4
fields_turn names fs i later x l0 l1 l2 l3 l4 h e p q r s =
    at_drop_more (λ (v : List (List ℕ × Expr)). put_all (fields_tokens names later v) l0) fs i x h
    ∙ ap (λ (y : List ℕ × Expr). put_all (fields_tokens names later (y ∷ drop (i + 1) fs)) l0) (sym e)
    ∙ sym (put_three (sign_if later Comma) (Name x.0 ∷ Sign Colon ∷ expr_tokens names x.1) (fields_tokens names true (drop (i + 1) fs)) l0 l1 l4 _ p
    (s ∙ ap (put_all (expr_tokens names x.1)) (r ∙ ap (put (Sign Colon)) q)) refl)

pub stmts_turn : (names : Names) (c : List Stmt) (i : ℕ) (x : Stmt) (l0 l1 : Line) → i < length c → x ≡ get_or c i x → l1 ≡ put_all (stmt_tokens names x) l0
    → put_all (body_tokens names (drop i c)) l0 ≡ put_all (body_tokens names (drop (i + 1) c)) l1
stmts_turn names c i x l0 l1 h e p =
    at_drop_more (λ (v : List Stmt). put_all (body_tokens names v) l0) c i x h
    ∙ ap (λ (y : Stmt). put_all (body_tokens names (y ∷ drop (i + 1) c)) l0) (sym e)
    ∙ sym (put_both (stmt_tokens names x) (body_tokens names (drop (i + 1) c)) l0 l1 _ p refl)

-- two expressions with a sign between them
compared_puts : (m : Mark) (xs ys : List Token) (l0 l1 l2 l3 : Line) → l1 ≡ put_all xs l0 → l2 ≡ put (Sign m) l1 → l3 ≡ put_all ys l2 → l3 ≡ put_all (compared m xs ys) l0
compared_puts m xs ys l0 l1 l2 l3 p q r = put_both xs (Sign m ∷ ys) l0 l1 l3 p (r ∙ ap (put_all ys) q)

pub equal_puts : (names : Names) (x l r l' r' : Expr) (s : ℕ) (l0 l1 l2 l3 : Line) → x ≡ v.Equal l s r → l' ≡ l → r' ≡ r
    → l1 ≡ put_all (expr_tokens names l') l0 → l2 ≡ put (Sign Equal) l1 → l3 ≡ put_all (expr_tokens names r') l2 → l3 ≡ put_all (expr_tokens names x) l0
equal_puts names x l r l' r' s l0 l1 l2 l3 is p q a b c =
    compared_puts Equal (expr_tokens names l) (expr_tokens names r) l0 l1 l2 l3 (a ∙ ap (λ (w : Expr). put_all (expr_tokens names w) l0) p) b (c ∙ ap (λ (w : Expr). put_all (expr_tokens names w) l2) q)
    ∙ ap (λ (ts : List Token). put_all ts l0) (sym (ap (expr_tokens names) (sym (rolls-Equal l s r)) ∙ fold-roll-Expr (List Token) (expr_step names) (one.Equal l s r)))
    ∙ ap (λ (w : Expr). put_all (expr_tokens names w) l0) (sym is)

pub less_puts : (names : Names) (x l r l' r' : Expr) (s : ℕ) (l0 l1 l2 l3 : Line) → x ≡ v.Less l s r → l' ≡ l → r' ≡ r
    → l1 ≡ put_all (expr_tokens names l') l0 → l2 ≡ put (Sign Less) l1 → l3 ≡ put_all (expr_tokens names r') l2 → l3 ≡ put_all (expr_tokens names x) l0
less_puts names x l r l' r' s l0 l1 l2 l3 is p q a b c =
    compared_puts Less (expr_tokens names l) (expr_tokens names r) l0 l1 l2 l3 (a ∙ ap (λ (w : Expr). put_all (expr_tokens names w) l0) p) b (c ∙ ap (λ (w : Expr). put_all (expr_tokens names w) l2) q)
    ∙ ap (λ (ts : List Token). put_all ts l0) (sym (ap (expr_tokens names) (sym (rolls-Less l s r)) ∙ fold-roll-Expr (List Token) (expr_step names) (one.Less l s r)))
    ∙ ap (λ (w : Expr). put_all (expr_tokens names w) l0) (sym is)

if_is : (names : Names) (at : ℕ) (x : Expr) (c : List Stmt) (o : Option (List Stmt)) → stmt_tokens names (b.If at x c o) ≡ if_tokens names x (map (stmt_tokens names) c) ++ other_of names o
if_is names at x c None = ap (stmt_tokens names) (sym (rolls-If at x c None)) ∙ fold-roll-Stmt (List Token) (stmt_step names) (each.If at x c None)
if_is names at x c (Some d) = ap (stmt_tokens names) (sym (rolls-If at x c (Some d))) ∙ fold-roll-Stmt (List Token) (stmt_step names) (each.If at x c (Some d))

pub if_puts : (names : Names) (s : Stmt) (at : ℕ) (x : Expr) (c c' : List Stmt) (o : Option (List Stmt)) (l0 l1 l2 : Line) → s ≡ b.If at x c o → c' ≡ c
    → l1 ≡ put_all (if_tokens names x (map (stmt_tokens names) c')) l0 → l2 ≡ put_all (other_of names o) l1 → l2 ≡ put_all (stmt_tokens names s) l0
if_puts names s at x c c' o l0 l1 l2 is p f g =
    put_both (if_tokens names x (map (stmt_tokens names) c)) (other_of names o) l0 l1 l2 (f ∙ ap (λ (w : List Stmt). put_all (if_tokens names x (map (stmt_tokens names) w)) l0) p) g
    ∙ ap (λ (ts : List Token). put_all ts l0) (sym (if_is names at x c o))
    ∙ ap (λ (w : Stmt). put_all (stmt_tokens names w) l0) (sym is)
