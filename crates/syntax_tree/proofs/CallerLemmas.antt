-- What the proofs of other crates cite of this crate's: the number of a name is the place of a declaration of that name; whether an expression and a statement are right, form by form.
use Rattle.std.proofs.Common.{◌≡◌, ℕ, ℤ, suc, ◌+◌, Bool, true, false, List, [], ◌∷◌, map, refl, sym, ap, ◌∙◌, arith, if◌then◌else◌}
use Rattle.std.specs.Prelude.{not, ◌&&◌, ◌||◌, ◌==◌, Option, Some, None, slice_get}
use Rattle.std.specs.Str.{bytes_eq}
use Rattle.std.proofs.lemmas.Slice.Eq.{bytes_eq-Decides}
use Rattle.syntax_tree.specs.Undeclared.{no_number}
use Rattle.syntax_tree.specs.Naming.{place_of}
use Rattle.syntax_tree.specs.Known.{Known, contains, consumed, produced, kind_is, is_simple, is_several, carries_value}
use Rattle.syntax_tree.specs.Right.{Part, part, all_parts, each_field_once, first_in, right_expr_step, part_of, is_right_expr, is_right_call, all_right, other_right, right_stmt_step, is_right_stmt}
use Rattle.syntax_tree.specs.declared.tree.Link.{Link}
use Rattle.syntax_tree.specs.declared.tree.Invoke.{Invoke}
use Rattle.syntax_tree.specs.declared.tree.Expr.{Expr}
use Rattle.syntax_tree.specs.declared.tree.Expr.TheVariants as e
use Rattle.syntax_tree.specs.declared.tree.Expr.TheVariants.{rolls-Null, rolls-Bool, rolls-Long, rolls-Str, rolls-Name, rolls-Get, rolls-All, rolls-New, rolls-ListOf, rolls-Fields, rolls-Len, rolls-Not, rolls-Sum, rolls-Both, rolls-Equal, rolls-Less, rolls-Paren, rolls-Me, rolls-StaticOf}
use Rattle.syntax_tree.specs.declared.tree.Expr.TheFolds.{fold-roll-Expr}
use Rattle.syntax_tree.specs.declared.tree.Expr.TheOpen as one
use Rattle.syntax_tree.specs.declared.tree.Stmt.{Stmt}
use Rattle.syntax_tree.specs.declared.tree.Stmt.TheVariants as b
use Rattle.syntax_tree.specs.declared.tree.Stmt.TheVariants.{rolls-If, rolls-Let, rolls-LetCall, rolls-CallOf, rolls-Produce, rolls-For, rolls-FailWith, rolls-Print, rolls-Return, rolls-Add, rolls-SetStatic, rolls-SetSelf, rolls-SetField}
use Rattle.syntax_tree.specs.declared.tree.Stmt.TheFolds.{fold-roll-Stmt}
use Rattle.syntax_tree.specs.declared.tree.Stmt.TheOpen as form

pub bytes_same : (xs ys : List ℕ) → bytes_eq xs ys ≡ true → xs ≡ ys
bytes_same xs ys e = (bytes_eq-Decides xs ys).0 e

-- ---- places

record Placed {A : Type 0} (name : A → List ℕ) (i : ℕ) (xs : List A) (w : List ℕ) (place : ℕ) : Type 0 where
  j : ℕ
  at : place ≡ i + j
  x : A
  gets : slice_get xs j ≡ Some x
  named : name x ≡ w

later_placed : {A : Type 0} (name : A → List ℕ) (i : ℕ) (y : A) (xs : List A) (w : List ℕ) (place : ℕ) → Placed name (i + 1) xs w place → Placed name i (y ∷ xs) w place
later_placed name i y xs w place h = record { j = suc h.j; at = (let e : place ≡ i + 1 + h.j = h.at in omega (arith, e)); x = h.x; gets = h.gets; named = h.named }

placed_by : {A : Type 0} (name : A → List ℕ) (i : ℕ) (x : A) (xs : List A) (w : List ℕ) → ((place_of name (i + 1) xs w == no_number) ≡ false → Placed name (i + 1) xs w (place_of name (i + 1) xs w))
    → (b c : Bool) → bytes_eq (name x) w ≡ c → ((if b then no_number else (if c then i else place_of name (i + 1) xs w)) == no_number) ≡ false
    → Placed name i (x ∷ xs) w (if b then no_number else (if c then i else place_of name (i + 1) xs w))
placed_by name i x xs w h true c e some = absurd (cc)
placed_by name i x xs w h false true e some = record { j = 0; at = omega arith; x = x; gets = refl; named = bytes_same (name x) w e }
placed_by name i x xs w h false false e some = later_placed name i x xs w (place_of name (i + 1) xs w) (h some)

placed : {A : Type 0} (name : A → List ℕ) (i : ℕ) (xs : List A) (w : List ℕ) → (place_of name i xs w == no_number) ≡ false → Placed name i xs w (place_of name i xs w)
placed name i [] w some = absurd cc
placed name i (x ∷ xs) w some = placed_by name i x xs w (placed name (i + 1) xs w) (i == no_number) (bytes_eq (name x) w) refl some

-- the place of a name has this name
pub record At {A : Type 0} (name : A → List ℕ) (xs : List A) (w : List ℕ) (place : ℕ) : Type 0 where
  pub x : A
  pub gets : slice_get xs place ≡ Some x
  pub named : name x ≡ w

pub at_place : {A : Type 0} (name : A → List ℕ) (xs : List A) (w : List ℕ) → (place_of name 0 xs w == no_number) ≡ false → At name xs w (place_of name 0 xs w)
at_place name xs w some =
    let p : Placed name 0 xs w (place_of name 0 xs w) = placed name 0 xs w some in
    record { x = p.x; gets = ap (slice_get xs) (let e : place_of name 0 xs w ≡ 0 + p.j = p.at in omega (arith, e)) ∙ p.gets; named = p.named }

-- ---- right expressions

module _ (step : Bool) (k : Known) where
  abbrev pt : Expr → Part
  pt = part_of step k

  abbrev pub with_parts : List (List ℕ × Expr) → List (List ℕ × Part)
  with_parts fs = map (λ (f : List ℕ × Expr). (f.0, part_of step k f.1)) fs

  pub right_null : (at : ℕ) → part_of step k (e.Null at) ≡ part true
  right_null at = ap pt (sym (rolls-Null at)) ∙ fold-roll-Expr Part (right_expr_step step k) (one.Null at)

  pub right_bool : (at : ℕ) (v : Bool) → part_of step k (e.Bool at v) ≡ part true
  right_bool at v = ap pt (sym (rolls-Bool at v)) ∙ fold-roll-Expr Part (right_expr_step step k) (one.Bool at v)

  pub right_long : (at : ℕ) (v : ℤ) → part_of step k (e.Long at v) ≡ part true
  right_long at v = ap pt (sym (rolls-Long at v)) ∙ fold-roll-Expr Part (right_expr_step step k) (one.Long at v)

  pub right_str : (at : ℕ) (v : List ℕ) → part_of step k (e.Str at v) ≡ part true
  right_str at v = ap pt (sym (rolls-Str at v)) ∙ fold-roll-Expr Part (right_expr_step step k) (one.Str at v)

  pub right_name : (at : ℕ) (x : List ℕ) → part_of step k (e.Name at x) ≡ part true
  right_name at x = ap pt (sym (rolls-Name at x)) ∙ fold-roll-Expr Part (right_expr_step step k) (one.Name at x)

  pub right_get : (at item : ℕ) → part_of step k (e.Get at item) ≡ part (step && consumed k.consumes item && kind_is is_simple (slice_get k.names.items item))
  right_get at item = ap pt (sym (rolls-Get at item)) ∙ fold-roll-Expr Part (right_expr_step step k) (one.Get at item)

  pub right_all : (at item : ℕ) → part_of step k (e.All at item) ≡ part (step && consumed k.consumes item && kind_is is_several (slice_get k.names.items item))
  right_all at item = ap pt (sym (rolls-All at item)) ∙ fold-roll-Expr Part (right_expr_step step k) (one.All at item)

  pub right_new : (at bean : ℕ) (fs : List (List ℕ × Expr)) → part_of step k (e.New at bean fs) ≡ part (each_field_once (slice_get k.names.beans bean) (map (λ f. f.0) (with_parts fs)) && all_parts (map (λ f. f.1) (with_parts fs)))
  right_new at bean fs = ap pt (sym (rolls-New at bean fs)) ∙ fold-roll-Expr Part (right_expr_step step k) (one.New at bean fs)

  pub right_listof : (at : ℕ) (parts : List Expr) → part_of step k (e.ListOf at parts) ≡ part (all_parts (map (part_of step k) parts))
  right_listof at parts = ap pt (sym (rolls-ListOf at parts)) ∙ fold-roll-Expr Part (right_expr_step step k) (one.ListOf at parts)

  pub right_fields : (inner : Expr) (links : List Link) → part_of step k (e.Fields inner links) ≡ part ((part_of step k inner).right && (not (part_of step k inner).me || first_in k.fields links))
  right_fields inner links = ap pt (sym (rolls-Fields inner links)) ∙ fold-roll-Expr Part (right_expr_step step k) (one.Fields inner links)

  pub right_len : (at : ℕ) (inner : Expr) → part_of step k (e.Len at inner) ≡ part (part_of step k inner).right
  right_len at inner = ap pt (sym (rolls-Len at inner)) ∙ fold-roll-Expr Part (right_expr_step step k) (one.Len at inner)

  pub right_not : (at : ℕ) (inner : Expr) → part_of step k (e.Not at inner) ≡ part (part_of step k inner).right
  right_not at inner = ap pt (sym (rolls-Not at inner)) ∙ fold-roll-Expr Part (right_expr_step step k) (one.Not at inner)

  pub right_sum : (parts : List Expr) (signs : List ℕ) → part_of step k (e.Sum parts signs) ≡ part (all_parts (map (part_of step k) parts))
  right_sum parts signs = ap pt (sym (rolls-Sum parts signs)) ∙ fold-roll-Expr Part (right_expr_step step k) (one.Sum parts signs)

  pub right_both : (parts : List Expr) (signs : List ℕ) → part_of step k (e.Both parts signs) ≡ part (all_parts (map (part_of step k) parts))
  right_both parts signs = ap pt (sym (rolls-Both parts signs)) ∙ fold-roll-Expr Part (right_expr_step step k) (one.Both parts signs)

  pub right_equal : (left : Expr) (sign : ℕ) (other : Expr) → part_of step k (e.Equal left sign other) ≡ part ((part_of step k left).right && (part_of step k other).right)
  right_equal left sign other = ap pt (sym (rolls-Equal left sign other)) ∙ fold-roll-Expr Part (right_expr_step step k) (one.Equal left sign other)

  pub right_less : (left : Expr) (sign : ℕ) (other : Expr) → part_of step k (e.Less left sign other) ≡ part ((part_of step k left).right && (part_of step k other).right)
  right_less left sign other = ap pt (sym (rolls-Less left sign other)) ∙ fold-roll-Expr Part (right_expr_step step k) (one.Less left sign other)

  pub right_paren : (at : ℕ) (inner : Expr) → part_of step k (e.Paren at inner) ≡ part (part_of step k inner).right
  right_paren at inner = ap pt (sym (rolls-Paren at inner)) ∙ fold-roll-Expr Part (right_expr_step step k) (one.Paren at inner)

  pub right_me : (at : ℕ) → part_of step k (e.Me at) ≡ record { me = true; right = not step }
  right_me at = ap pt (sym (rolls-Me at)) ∙ fold-roll-Expr Part (right_expr_step step k) (one.Me at)

  pub right_staticof : (at : ℕ) (f : List ℕ) → part_of step k (e.StaticOf at f) ≡ part (not step && contains k.statics f)
  right_staticof at f = ap pt (sym (rolls-StaticOf at f)) ∙ fold-roll-Expr Part (right_expr_step step k) (one.StaticOf at f)

  -- ---- right statements

  abbrev st : Stmt → Bool
  st = is_right_stmt step k

  pub right_let : (at : ℕ) (x : List ℕ) (v : Expr) → is_right_stmt step k (b.Let at x v) ≡ is_right_expr step k v
  right_let at x v = ap st (sym (rolls-Let at x v)) ∙ fold-roll-Stmt Bool (right_stmt_step step k) (form.Let at x v)

  pub right_letcall : (at : ℕ) (x : List ℕ) (c : Invoke) → is_right_stmt step k (b.LetCall at x c) ≡ is_right_call step k c
  right_letcall at x c = ap st (sym (rolls-LetCall at x c)) ∙ fold-roll-Stmt Bool (right_stmt_step step k) (form.LetCall at x c)

  pub right_callof : (c : Invoke) → is_right_stmt step k (b.CallOf c) ≡ is_right_call step k c
  right_callof c = ap st (sym (rolls-CallOf c)) ∙ fold-roll-Stmt Bool (right_stmt_step step k) (form.CallOf c)

  pub right_produce : (at item : ℕ) (v : Expr) → is_right_stmt step k (b.Produce at item v) ≡ (step && produced k.produces item && kind_is carries_value (slice_get k.names.items item) && is_right_expr step k v)
  right_produce at item v = ap st (sym (rolls-Produce at item v)) ∙ fold-roll-Stmt Bool (right_stmt_step step k) (form.Produce at item v)

  pub right_for : (at : ℕ) (x : List ℕ) (l : Expr) (c : List Stmt) → is_right_stmt step k (b.For at x l c) ≡ (is_right_expr step k l && all_right step k (map (is_right_stmt step k) c))
  right_for at x l c = ap st (sym (rolls-For at x l c)) ∙ fold-roll-Stmt Bool (right_stmt_step step k) (form.For at x l c)

  pub right_failwith : (at : ℕ) (v : Expr) → is_right_stmt step k (b.FailWith at v) ≡ is_right_expr step k v
  right_failwith at v = ap st (sym (rolls-FailWith at v)) ∙ fold-roll-Stmt Bool (right_stmt_step step k) (form.FailWith at v)

  pub right_print : (at : ℕ) (v : Expr) → is_right_stmt step k (b.Print at v) ≡ (not step && is_right_expr step k v)
  right_print at v = ap st (sym (rolls-Print at v)) ∙ fold-roll-Stmt Bool (right_stmt_step step k) (form.Print at v)

  pub right_return : (at : ℕ) (v : Expr) → is_right_stmt step k (b.Return at v) ≡ (not step && is_right_expr step k v)
  right_return at v = ap st (sym (rolls-Return at v)) ∙ fold-roll-Stmt Bool (right_stmt_step step k) (form.Return at v)

  pub right_add : (at : ℕ) (l v : Expr) → is_right_stmt step k (b.Add at l v) ≡ (not step && is_right_expr step k l && is_right_expr step k v)
  right_add at l v = ap st (sym (rolls-Add at l v)) ∙ fold-roll-Stmt Bool (right_stmt_step step k) (form.Add at l v)

  pub right_setstatic : (at : ℕ) (f : List ℕ) (v : Expr) → is_right_stmt step k (b.SetStatic at f v) ≡ (not step && contains k.statics f && is_right_expr step k v)
  right_setstatic at f v = ap st (sym (rolls-SetStatic at f v)) ∙ fold-roll-Stmt Bool (right_stmt_step step k) (form.SetStatic at f v)

  pub right_setself : (at dot : ℕ) (f : List ℕ) (v : Expr) → is_right_stmt step k (b.SetSelf at dot f v) ≡ (not step && contains k.fields f && is_right_expr step k v)
  right_setself at dot f v = ap st (sym (rolls-SetSelf at dot f v)) ∙ fold-roll-Stmt Bool (right_stmt_step step k) (form.SetSelf at dot f v)

  pub right_setfield : (at dot : ℕ) (x f : List ℕ) (v : Expr) → is_right_stmt step k (b.SetField at dot x f v) ≡ (not step && is_right_expr step k v)
  right_setfield at dot x f v = ap st (sym (rolls-SetField at dot x f v)) ∙ fold-roll-Stmt Bool (right_stmt_step step k) (form.SetField at dot x f v)

  abbrev pub other_rights : Option (List Stmt) → Option (List Bool)
  other_rights None = None
  other_rights (Some d) = Some (map (is_right_stmt step k) d)

  pub right_if : (at : ℕ) (x : Expr) (c : List Stmt) (o : Option (List Stmt)) → is_right_stmt step k (b.If at x c o) ≡ (is_right_expr step k x && all_right step k (map (is_right_stmt step k) c) && other_right step k (other_rights o))
  right_if at x c None = ap st (sym (rolls-If at x c None)) ∙ fold-roll-Stmt Bool (right_stmt_step step k) (form.If at x c None)
  right_if at x c (Some d) = ap st (sym (rolls-If at x c (Some d))) ∙ fold-roll-Stmt Bool (right_stmt_step step k) (form.If at x c (Some d))
