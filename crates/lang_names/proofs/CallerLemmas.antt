-- The test of the names of an expression and of a statement, form by form; and what tests that are right say.
use Rattle.std.proofs.Common.{◌≡◌, ℕ, ℤ, Bool, true, false, List, [], ◌∷◌, ◌++◌, map, Ok, Err, refl, sym, ap, ◌∙◌}
use Rattle.std.specs.Prelude.{not, ◌==◌, Option, Some, None, Result}
use Rattle.lang_names.specs.declared.wrong.Wrong.{Wrong}
use Rattle.syntax_tree.specs.Undeclared.{no_number}
use Rattle.syntax_tree.specs.Known.{Known, contains}
use Rattle.syntax_tree.specs.declared.tree.Link.{Link}
use Rattle.syntax_tree.specs.declared.tree.Invoke.{Invoke}
use Rattle.syntax_tree.specs.declared.tree.Expr.{Expr}
use Rattle.syntax_tree.specs.declared.tree.Expr.TheVariants as e
use Rattle.syntax_tree.specs.declared.tree.Expr.TheVariants.{rolls-Null, rolls-Bool, rolls-Long, rolls-Str, rolls-Name, rolls-Get, rolls-All, rolls-New, rolls-ListOf, rolls-Fields, rolls-Len, rolls-Not, rolls-Sum, rolls-Both, rolls-Equal, rolls-Less, rolls-Paren, rolls-Me, rolls-StaticOf}
use Rattle.syntax_tree.specs.declared.tree.Expr.TheFolds.{fold-roll-Expr}
use Rattle.syntax_tree.specs.declared.tree.Expr.TheOpen as one
use Rattle.syntax_tree.specs.declared.tree.Stmt.{Stmt}
use Rattle.syntax_tree.specs.declared.tree.Stmt.TheVariants as b
use Rattle.syntax_tree.specs.declared.tree.Stmt.TheVariants.{rolls-If, rolls-Let, rolls-LetCall, rolls-CallOf, rolls-Produce, rolls-For, rolls-FailWith, rolls-Print, rolls-Return, rolls-Add, rolls-SetStatic, rolls-SetSelf, rolls-SetField}
use Rattle.syntax_tree.specs.declared.tree.Stmt.TheFolds.{fold-roll-Stmt}
use Rattle.syntax_tree.specs.declared.tree.Stmt.TheOpen as form
use Rattle.lang_names.specs.Checked.{Checked, right, later, known, fitting, and_also}
use Rattle.lang_names.specs.Exprs.{Told, told, told_of, told_step, get_right, all_right, bean_right, link_right, all_checked, first_part, with_told, expr_right}
use Rattle.lang_names.specs.Stmts.{Passing, leaves, block_right, call_right, produce_right, other_right, stmt_step, passing, dropped, go_on}

-- ---- tests

pub both_left : (a b : Checked) → and_also a b ≡ right → a ≡ right
both_left (Ok x) b e = refl
both_left (Err w) b e = e

pub both_right : (a b : Checked) → and_also a b ≡ right → b ≡ right
both_right (Ok x) b e = e
both_right (Err w) b e = absurd cc

pub is_known : (b : Bool) (at : ℕ) → known b at ≡ right → b ≡ true
is_known true at e = refl
is_known false at e = absurd cc

pub is_fitting : (b : Bool) (at : ℕ) → fitting b at ≡ right → b ≡ true
is_fitting true at e = refl
is_fitting false at e = absurd cc

pub known_number : (i at : ℕ) → known (not (i == no_number)) at ≡ right → (i == no_number) ≡ false
known_number i at e = by (i == no_number) (is_known (not (i == no_number)) at e)
  where
    by : (b : Bool) → not b ≡ true → b ≡ false
    by true h = absurd cc
    by false h = refl

-- ---- scopes

pub leaves_right : (c : Checked) (s t : List (List ℕ)) → leaves c s ≡ Ok t → c ≡ right
leaves_right (Ok x) s t e = refl
leaves_right (Err w) s t e = absurd cc

pub record Went (r : Result (List (List ℕ)) Wrong) (f : Passing) (t : List (List ℕ)) : Type 0 where
  pub u : List (List ℕ)
  pub first : r ≡ Ok u
  pub then : f u ≡ Ok t

pub went : (r : Result (List (List ℕ)) Wrong) (f : Passing) (t : List (List ℕ)) → go_on r f ≡ Ok t → Went r f t
went (Ok u) f t e = record { u = u; first = refl; then = e }
went (Err w) f t e = absurd cc

pub record Ends (r : Result (List (List ℕ)) Wrong) : Type 0 where
  pub u : List (List ℕ)
  pub is : r ≡ Ok u

pub ends : (r : Result (List (List ℕ)) Wrong) → dropped r ≡ right → Ends r
ends (Ok u) e = record { u = u; is = refl }
ends (Err w) e = absurd cc

module _ (k : Known) where
  -- ---- expressions

  pub told_null : (at : ℕ) → told_of k (e.Null at) ≡ told at (λ s. right)
  told_null at = ap (told_of k) (sym (rolls-Null at)) ∙ fold-roll-Expr Told (told_step k) (one.Null at)

  pub told_bool : (at : ℕ) (v : Bool) → told_of k (e.Bool at v) ≡ told at (λ s. right)
  told_bool at v = ap (told_of k) (sym (rolls-Bool at v)) ∙ fold-roll-Expr Told (told_step k) (one.Bool at v)

  pub told_long : (at : ℕ) (v : ℤ) → told_of k (e.Long at v) ≡ told at (λ s. right)
  told_long at v = ap (told_of k) (sym (rolls-Long at v)) ∙ fold-roll-Expr Told (told_step k) (one.Long at v)

  pub told_str : (at : ℕ) (v : List ℕ) → told_of k (e.Str at v) ≡ told at (λ s. right)
  told_str at v = ap (told_of k) (sym (rolls-Str at v)) ∙ fold-roll-Expr Told (told_step k) (one.Str at v)

  pub told_name : (at : ℕ) (x : List ℕ) → told_of k (e.Name at x) ≡ told at (λ s. known (contains s x) at)
  told_name at x = ap (told_of k) (sym (rolls-Name at x)) ∙ fold-roll-Expr Told (told_step k) (one.Name at x)

  pub told_get : (at item : ℕ) → told_of k (e.Get at item) ≡ told at (λ s. get_right k at item)
  told_get at item = ap (told_of k) (sym (rolls-Get at item)) ∙ fold-roll-Expr Told (told_step k) (one.Get at item)

  pub told_all : (at item : ℕ) → told_of k (e.All at item) ≡ told at (λ s. all_right k at item)
  told_all at item = ap (told_of k) (sym (rolls-All at item)) ∙ fold-roll-Expr Told (told_step k) (one.All at item)

  pub told_new : (at bean : ℕ) (fs : List (List ℕ × Expr)) → told_of k (e.New at bean fs) ≡ told at (bean_right k at bean (with_told k fs))
  told_new at bean fs = ap (told_of k) (sym (rolls-New at bean fs)) ∙ fold-roll-Expr Told (told_step k) (one.New at bean fs)

  pub told_listof : (at : ℕ) (parts : List Expr) → told_of k (e.ListOf at parts) ≡ told at (all_checked (map (told_of k) parts))
  told_listof at parts = ap (told_of k) (sym (rolls-ListOf at parts)) ∙ fold-roll-Expr Told (told_step k) (one.ListOf at parts)

  pub told_fields : (inner : Expr) (links : List Link) → told_of k (e.Fields inner links) ≡ told (told_of k inner).first (λ s. and_also ((told_of k inner).check s) (link_right k (told_of k inner).me links))
  told_fields inner links = ap (told_of k) (sym (rolls-Fields inner links)) ∙ fold-roll-Expr Told (told_step k) (one.Fields inner links)

  pub told_len : (at : ℕ) (inner : Expr) → told_of k (e.Len at inner) ≡ told at (told_of k inner).check
  told_len at inner = ap (told_of k) (sym (rolls-Len at inner)) ∙ fold-roll-Expr Told (told_step k) (one.Len at inner)

  pub told_not : (at : ℕ) (inner : Expr) → told_of k (e.Not at inner) ≡ told at (told_of k inner).check
  told_not at inner = ap (told_of k) (sym (rolls-Not at inner)) ∙ fold-roll-Expr Told (told_step k) (one.Not at inner)

  pub told_sum : (parts : List Expr) (signs : List ℕ) → told_of k (e.Sum parts signs) ≡ told (first_part (map (told_of k) parts)) (all_checked (map (told_of k) parts))
  told_sum parts signs = ap (told_of k) (sym (rolls-Sum parts signs)) ∙ fold-roll-Expr Told (told_step k) (one.Sum parts signs)

  pub told_both : (parts : List Expr) (signs : List ℕ) → told_of k (e.Both parts signs) ≡ told (first_part (map (told_of k) parts)) (all_checked (map (told_of k) parts))
  told_both parts signs = ap (told_of k) (sym (rolls-Both parts signs)) ∙ fold-roll-Expr Told (told_step k) (one.Both parts signs)

  pub told_equal : (left : Expr) (sign : ℕ) (other : Expr) → told_of k (e.Equal left sign other) ≡ told (told_of k left).first (λ s. and_also ((told_of k left).check s) ((told_of k other).check s))
  told_equal left sign other = ap (told_of k) (sym (rolls-Equal left sign other)) ∙ fold-roll-Expr Told (told_step k) (one.Equal left sign other)

  pub told_less : (left : Expr) (sign : ℕ) (other : Expr) → told_of k (e.Less left sign other) ≡ told (told_of k left).first (λ s. and_also ((told_of k left).check s) ((told_of k other).check s))
  told_less left sign other = ap (told_of k) (sym (rolls-Less left sign other)) ∙ fold-roll-Expr Told (told_step k) (one.Less left sign other)

  pub told_paren : (at : ℕ) (inner : Expr) → told_of k (e.Paren at inner) ≡ told at (told_of k inner).check
  told_paren at inner = ap (told_of k) (sym (rolls-Paren at inner)) ∙ fold-roll-Expr Told (told_step k) (one.Paren at inner)

  pub told_me : (at : ℕ) → told_of k (e.Me at) ≡ record { first = at; me = true; check = λ s. right }
  told_me at = ap (told_of k) (sym (rolls-Me at)) ∙ fold-roll-Expr Told (told_step k) (one.Me at)

  pub told_staticof : (at : ℕ) (f : List ℕ) → told_of k (e.StaticOf at f) ≡ told at (λ s. known (contains k.statics f) (later at 2))
  told_staticof at f = ap (told_of k) (sym (rolls-StaticOf at f)) ∙ fold-roll-Expr Told (told_step k) (one.StaticOf at f)

  pub checks_get : (s : List (List ℕ)) (at item : ℕ) → (told_of k (e.Get at item)).check s ≡ get_right k at item
  checks_get s at item = ap (λ (t : Told). t.check s) (told_get at item)

  pub checks_all : (s : List (List ℕ)) (at item : ℕ) → (told_of k (e.All at item)).check s ≡ all_right k at item
  checks_all s at item = ap (λ (t : Told). t.check s) (told_all at item)

  pub checks_new : (s : List (List ℕ)) (at bean : ℕ) (fs : List (List ℕ × Expr)) → (told_of k (e.New at bean fs)).check s ≡ bean_right k at bean (with_told k fs) s
  checks_new s at bean fs = ap (λ (t : Told). t.check s) (told_new at bean fs)

  pub checks_listof : (s : List (List ℕ)) (at : ℕ) (parts : List Expr) → (told_of k (e.ListOf at parts)).check s ≡ all_checked (map (told_of k) parts) s
  checks_listof s at parts = ap (λ (t : Told). t.check s) (told_listof at parts)

  pub checks_fields : (s : List (List ℕ)) (inner : Expr) (links : List Link) → (told_of k (e.Fields inner links)).check s ≡ and_also ((told_of k inner).check s) (link_right k (told_of k inner).me links)
  checks_fields s inner links = ap (λ (t : Told). t.check s) (told_fields inner links)

  pub checks_len : (s : List (List ℕ)) (at : ℕ) (inner : Expr) → (told_of k (e.Len at inner)).check s ≡ (told_of k inner).check s
  checks_len s at inner = ap (λ (t : Told). t.check s) (told_len at inner)

  pub checks_not : (s : List (List ℕ)) (at : ℕ) (inner : Expr) → (told_of k (e.Not at inner)).check s ≡ (told_of k inner).check s
  checks_not s at inner = ap (λ (t : Told). t.check s) (told_not at inner)

  pub checks_sum : (s : List (List ℕ)) (parts : List Expr) (signs : List ℕ) → (told_of k (e.Sum parts signs)).check s ≡ all_checked (map (told_of k) parts) s
  checks_sum s parts signs = ap (λ (t : Told). t.check s) (told_sum parts signs)

  pub checks_both : (s : List (List ℕ)) (parts : List Expr) (signs : List ℕ) → (told_of k (e.Both parts signs)).check s ≡ all_checked (map (told_of k) parts) s
  checks_both s parts signs = ap (λ (t : Told). t.check s) (told_both parts signs)

  pub checks_equal : (s : List (List ℕ)) (left : Expr) (sign : ℕ) (right : Expr) → (told_of k (e.Equal left sign right)).check s ≡ and_also ((told_of k left).check s) ((told_of k right).check s)
  checks_equal s left sign right = ap (λ (t : Told). t.check s) (told_equal left sign right)

  pub checks_less : (s : List (List ℕ)) (left : Expr) (sign : ℕ) (right : Expr) → (told_of k (e.Less left sign right)).check s ≡ and_also ((told_of k left).check s) ((told_of k right).check s)
  checks_less s left sign right = ap (λ (t : Told). t.check s) (told_less left sign right)

  pub checks_paren : (s : List (List ℕ)) (at : ℕ) (inner : Expr) → (told_of k (e.Paren at inner)).check s ≡ (told_of k inner).check s
  checks_paren s at inner = ap (λ (t : Told). t.check s) (told_paren at inner)

  -- ---- statements

  pub passes_let : (s : List (List ℕ)) (at : ℕ) (x : List ℕ) (v : Expr) → passing k (b.Let at x v) s ≡ leaves (expr_right k s v) (s ++ x ∷ [])
  passes_let s at x v = ap (λ (f : Passing). f s) (ap (passing k) (sym (rolls-Let at x v)) ∙ fold-roll-Stmt Passing (stmt_step k) (form.Let at x v))

  pub passes_letcall : (s : List (List ℕ)) (at : ℕ) (x : List ℕ) (c : Invoke) → passing k (b.LetCall at x c) s ≡ leaves (call_right k s c) (s ++ x ∷ [])
  passes_letcall s at x c = ap (λ (f : Passing). f s) (ap (passing k) (sym (rolls-LetCall at x c)) ∙ fold-roll-Stmt Passing (stmt_step k) (form.LetCall at x c))

  pub passes_callof : (s : List (List ℕ)) (c : Invoke) → passing k (b.CallOf c) s ≡ leaves (call_right k s c) s
  passes_callof s c = ap (λ (f : Passing). f s) (ap (passing k) (sym (rolls-CallOf c)) ∙ fold-roll-Stmt Passing (stmt_step k) (form.CallOf c))

  pub passes_produce : (s : List (List ℕ)) (at item : ℕ) (v : Expr) → passing k (b.Produce at item v) s ≡ leaves (produce_right k s at item v) s
  passes_produce s at item v = ap (λ (f : Passing). f s) (ap (passing k) (sym (rolls-Produce at item v)) ∙ fold-roll-Stmt Passing (stmt_step k) (form.Produce at item v))

  pub passes_for : (s : List (List ℕ)) (at : ℕ) (x : List ℕ) (l : Expr) (c : List Stmt) → passing k (b.For at x l c) s ≡ leaves (and_also (expr_right k s l) (block_right (map (passing k) c) (s ++ x ∷ []))) s
  passes_for s at x l c = ap (λ (f : Passing). f s) (ap (passing k) (sym (rolls-For at x l c)) ∙ fold-roll-Stmt Passing (stmt_step k) (form.For at x l c))

  pub passes_failwith : (s : List (List ℕ)) (at : ℕ) (v : Expr) → passing k (b.FailWith at v) s ≡ leaves (expr_right k s v) s
  passes_failwith s at v = ap (λ (f : Passing). f s) (ap (passing k) (sym (rolls-FailWith at v)) ∙ fold-roll-Stmt Passing (stmt_step k) (form.FailWith at v))

  pub passes_print : (s : List (List ℕ)) (at : ℕ) (v : Expr) → passing k (b.Print at v) s ≡ leaves (expr_right k s v) s
  passes_print s at v = ap (λ (f : Passing). f s) (ap (passing k) (sym (rolls-Print at v)) ∙ fold-roll-Stmt Passing (stmt_step k) (form.Print at v))

  pub passes_return : (s : List (List ℕ)) (at : ℕ) (v : Expr) → passing k (b.Return at v) s ≡ leaves (expr_right k s v) s
  passes_return s at v = ap (λ (f : Passing). f s) (ap (passing k) (sym (rolls-Return at v)) ∙ fold-roll-Stmt Passing (stmt_step k) (form.Return at v))

  pub passes_add : (s : List (List ℕ)) (at : ℕ) (l v : Expr) → passing k (b.Add at l v) s ≡ leaves (and_also (expr_right k s l) (expr_right k s v)) s
  passes_add s at l v = ap (λ (f : Passing). f s) (ap (passing k) (sym (rolls-Add at l v)) ∙ fold-roll-Stmt Passing (stmt_step k) (form.Add at l v))

  pub passes_setstatic : (s : List (List ℕ)) (at : ℕ) (f : List ℕ) (v : Expr) → passing k (b.SetStatic at f v) s ≡ leaves (and_also (known (contains k.statics f) (later at 2)) (expr_right k s v)) s
  passes_setstatic s at f v = ap (λ (f : Passing). f s) (ap (passing k) (sym (rolls-SetStatic at f v)) ∙ fold-roll-Stmt Passing (stmt_step k) (form.SetStatic at f v))

  pub passes_setself : (s : List (List ℕ)) (at dot : ℕ) (f : List ℕ) (v : Expr) → passing k (b.SetSelf at dot f v) s ≡ leaves (and_also (known (contains k.fields f) (later dot 1)) (expr_right k s v)) s
  passes_setself s at dot f v = ap (λ (f : Passing). f s) (ap (passing k) (sym (rolls-SetSelf at dot f v)) ∙ fold-roll-Stmt Passing (stmt_step k) (form.SetSelf at dot f v))

  pub passes_setfield : (s : List (List ℕ)) (at dot : ℕ) (x f : List ℕ) (v : Expr) → passing k (b.SetField at dot x f v) s ≡ leaves (and_also (known (contains s x) at) (expr_right k s v)) s
  passes_setfield s at dot x f v = ap (λ (f : Passing). f s) (ap (passing k) (sym (rolls-SetField at dot x f v)) ∙ fold-roll-Stmt Passing (stmt_step k) (form.SetField at dot x f v))

  abbrev pub others : Option (List Stmt) → Option (List Passing)
  others None = None
  others (Some d) = Some (map (passing k) d)

  pub passes_if : (s : List (List ℕ)) (at : ℕ) (x : Expr) (c : List Stmt) (o : Option (List Stmt))
      → passing k (b.If at x c o) s ≡ leaves (and_also (and_also (expr_right k s x) (block_right (map (passing k) c) s)) (other_right (others o) s)) s
  passes_if s at x c None = ap (λ (f : Passing). f s) (ap (passing k) (sym (rolls-If at x c None)) ∙ fold-roll-Stmt Passing (stmt_step k) (form.If at x c None))
  passes_if s at x c (Some d) = ap (λ (f : Passing). f s) (ap (passing k) (sym (rolls-If at x c (Some d))) ∙ fold-roll-Stmt Passing (stmt_step k) (form.If at x c (Some d)))
