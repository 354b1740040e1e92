-- An expression that was read, all of whose names are right, is right.
use Rattle.std.proofs.Common.{◌≡◌, ℕ, zero, suc, Bool, true, false, List, [], ◌∷◌, ◌++◌, map, refl, sym, ap, ◌∙◌}
use Rattle.std.specs.Prelude.{not, ◌&&◌, ◌||◌, ◌==◌, Option, Some, None, slice_get, if◌then◌else◌}
use Rattle.std.specs.Str.{bytes_eq}
use Rattle.std.proofs.lemmas.Slice.Eq.{bytes_eq-Decides}
use Rattle.item_types.specs.Named.{fields_of}
use Rattle.item_types.specs.declared.decl.BeanDecl.{BeanDecl}
use Rattle.lang_lexer.specs.declared.token.Mark.TheVariants.{Get, All, New, Len, True, False, Null, Me, Static, Dot, Colon, Open, Close, OpenList, CloseList, OpenBlock, CloseBlock, Equal, Less, Plus, Bang, And}
use Rattle.lang_lexer.specs.declared.token.Token.{Token}
use Rattle.lang_lexer.specs.declared.token.Token.TheVariants.{Sign, Number, Str, Name}
use Rattle.syntax_tree.specs.Undeclared.{no_number}
use Rattle.syntax_tree.specs.Naming.{item_number, bean_number}
use Rattle.syntax_tree.specs.Known.{Known, contains, consumed, kind_is, is_simple, is_several, all_in}
use Rattle.syntax_tree.specs.Right.{Part, all_parts, distinct, each_field_once, first_in, part_of}
use Rattle.syntax_tree.specs.declared.tree.Link.{Link}
use Rattle.syntax_tree.specs.declared.tree.Expr.{Expr}
use Rattle.syntax_tree.specs.declared.tree.Expr.TheVariants as e
use Rattle.syntax_tree.proofs.CallerLemmas.{bytes_same, At, at_place, with_parts, right_null, right_bool, right_long, right_str, right_name, right_get, right_all, right_new, right_listof, right_fields, right_len, right_not, right_sum, right_both, right_equal, right_less, right_paren, right_me, right_staticof}
use Rattle.lang_grammar.specs.Place.{is}
use Rattle.lang_grammar.specs.Forms.{Form, nothing}
use Rattle.lang_grammar.specs.Table as table
use Rattle.lang_grammar.specs.Table.{compares}
use Rattle.lang_grammar.proofs.CallerLemmas.{Holds, holds_nothing, holds_give, holds_form, holds_last, holds_sign, holds_name, holds_number, holds_text, holds_here, holds_first, holds_optional, holds_where, holds_opening, holds_more}
use Rattle.lang_names.specs.Checked.{right, and_also, later}
use Rattle.lang_names.specs.Exprs.{Told, told_of, taken_right, new_right, name_right, fields_right, all_checked, with_told, link_right}
use Rattle.lang_names.proofs.CallerLemmas.{both_left, both_right, is_known, is_fitting, known_number, told_null, told_bool, told_long, told_str, told_name, told_get, told_all, told_new, told_listof, told_fields, told_len, told_not, told_sum, told_both, told_equal, told_less, told_paren, told_me, told_staticof}
use Rattle.step_lang.proofs.Trees.{and_true, Tree, Each, holds_listed, holds_chained}

-- ---- names of fields

not_true : (b : Bool) → not b ≡ true → b ≡ false
not_true true h = absurd cc
not_true false h = refl

true_not : (b : Bool) → b ≡ false → not b ≡ true
true_not true h = absurd cc
true_not false h = refl

differ_by : (c : Bool) (x y : List ℕ) → bytes_eq y x ≡ c → bytes_eq x y ≡ false → c ≡ false
differ_by false x y e h = refl
differ_by true x y e h = let same : bytes_eq x y ≡ true = (bytes_eq-Decides x y).1 (sym (bytes_same y x e)) in cc

differ : (x y : List ℕ) → bytes_eq x y ≡ false → bytes_eq y x ≡ false
differ x y h = differ_by (bytes_eq y x) x y refl h

-- none of these names is among those before
abbrev NoneIn : List (List ℕ) → List (List ℕ) → Type 0
NoneIn before [] = Unit {0}
NoneIn before (w ∷ ws) = (contains before w ≡ false) × NoneIn before ws

abbrev AllDiffer : List ℕ → List (List ℕ) → Type 0
AllDiffer f [] = Unit {0}
AllDiffer f (w ∷ ws) = (bytes_eq f w ≡ false) × AllDiffer f ws

skips_by : (b : Bool) (rest : Bool) → b ≡ false → rest ≡ false → (if b then true else rest) ≡ false
skips_by true rest h g = absurd cc
skips_by false rest h g = g

none_contains : (f : List ℕ) (ws : List (List ℕ)) → AllDiffer f ws → contains ws f ≡ false
none_contains f [] h = refl
none_contains f (w ∷ ws) h = skips_by (bytes_eq w f) (contains ws f) (differ f w h.0) (none_contains f ws h.1)

abbrev Apart : List (List ℕ) → List ℕ → List ℕ → Type 0
Apart before f w = (contains before w ≡ false) × (bytes_eq f w ≡ false)

if_none : (b rest : Bool) → (if b then true else rest) ≡ false → (b ≡ false) × (rest ≡ false)
if_none true rest h = absurd cc
if_none false rest h = (refl, h)

apart : (before : List (List ℕ)) (f w : List ℕ) → contains (before ++ f ∷ []) w ≡ false → Apart before f w
apart [] f w h = (refl, (if_none (bytes_eq f w) false h).0)
apart (x ∷ before) f w h =
    let g = if_none (bytes_eq x w) (contains (before ++ f ∷ []) w) h in
    let r : Apart before f w = apart before f w g.1 in (skips_by (bytes_eq x w) (contains before w) g.0 r.0, r.1)

none_before : (before : List (List ℕ)) (f : List ℕ) (ws : List (List ℕ)) → NoneIn (before ++ f ∷ []) ws → NoneIn before ws
none_before before f [] h = tt
none_before before f (w ∷ ws) h = ((apart before f w h.0).0, none_before before f ws h.1)

all_differ : (before : List (List ℕ)) (f : List ℕ) (ws : List (List ℕ)) → NoneIn (before ++ f ∷ []) ws → AllDiffer f ws
all_differ before f [] h = tt
all_differ before f (w ∷ ws) h = ((apart before f w h.0).1, all_differ before f ws h.1)

if_all : (b rest : Bool) → b ≡ true → rest ≡ true → (if b then rest else false) ≡ true
if_all true rest h g = g
if_all false rest h g = absurd cc

once_by : (o : Option BeanDecl) (x : BeanDecl) (ws : List (List ℕ)) → o ≡ Some x → all_in (fields_of o) ws ≡ true → all_in ws (fields_of o) ≡ true → distinct ws ≡ true → each_field_once o ws ≡ true
once_by None x ws e p q r = absurd cc
once_by (Some b) x ws e p q r = and_true (all_in b.fields ws && all_in ws b.fields) (distinct ws) (and_true (all_in b.fields ws) (all_in ws b.fields) p q) r

module _ (step : Bool) (k : Known) (s : List (List ℕ)) where
  -- it is `self` for both, and right where its names are
  abbrev pub Fine : Expr → Type 0
  Fine x = ((told_of k x).me ≡ (part_of step k x).me) × ((told_of k x).check s ≡ right → (part_of step k x).right ≡ true)

  abbrev pub FineTree : Expr → List Token → Type 0
  FineTree = Tree Fine

  made : (x : Expr) (t : Told) (p : Part) → told_of k x ≡ t → part_of step k x ≡ p → t.me ≡ p.me → (t.check s ≡ right → p.right ≡ true) → Fine x
  made x t p a b m h = (ap (λ (t : Told). t.me) a ∙ m ∙ sym (ap (λ (p : Part). p.me) b), λ g. ap (λ (p : Part). p.right) b ∙ h (sym (ap (λ (t : Told). t.check s) a) ∙ g))

  parts_right : (parts : List Expr) → Each Fine parts → all_checked (map (told_of k) parts) s ≡ right → all_parts (map (part_of step k) parts) ≡ true
  parts_right [] h g = refl
  parts_right (x ∷ xs) h g =
      and_true (part_of step k x).right (all_parts (map (part_of step k) xs)) (h.0.1 (both_left ((told_of k x).check s) (all_checked (map (told_of k) xs) s) g))
      (parts_right xs h.1 (both_right ((told_of k x).check s) (all_checked (map (told_of k) xs) s) g))

  -- ---- beans

  abbrev FineField : List ℕ × Expr → Type 0
  FineField f = Fine f.1

  abbrev names : List (List ℕ × Expr) → List (List ℕ)
  names fs = map (λ (f : List ℕ × Part). f.0) (with_parts step k fs)

  names_same : (fs : List (List ℕ × Expr)) → map (λ (f : List ℕ × Told). f.0) (with_told k fs) ≡ names fs
  names_same [] = refl
  names_same (f ∷ fs) = ap (λ w. f.0 ∷ w) (names_same fs)

  record FieldsRight (declared before : List (List ℕ)) (fs : List (List ℕ × Expr)) : Type 0 where
    declares : all_in (names fs) declared ≡ true
    fresh : NoneIn before (names fs)
    once : distinct (names fs) ≡ true
    parts : all_parts (map (λ (f : List ℕ × Part). f.1) (with_parts step k fs)) ≡ true

  fields_are : (declared before : List (List ℕ)) (fs : List (List ℕ × Expr)) → Each FineField fs → fields_right declared before (with_told k fs) s ≡ right → FieldsRight declared before fs
  fields_are declared before [] h g = record { declares = refl; fresh = tt; once = refl; parts = refl }
  fields_are declared before (f ∷ fs) h g =
      let l : and_also (name_right declared before f.0 (told_of k f.1).first) ((told_of k f.1).check s) ≡ right =
      both_left (and_also (name_right declared before f.0 (told_of k f.1).first) ((told_of k f.1).check s)) (fields_right declared (before ++ f.0 ∷ []) (with_told k fs) s) g in
      let n : name_right declared before f.0 (told_of k f.1).first ≡ right = both_left (name_right declared before f.0 (told_of k f.1).first) ((told_of k f.1).check s) l in
      let v : (told_of k f.1).check s ≡ right = both_right (name_right declared before f.0 (told_of k f.1).first) ((told_of k f.1).check s) l in
      let r : FieldsRight declared (before ++ f.0 ∷ []) fs =
      fields_are declared (before ++ f.0 ∷ []) fs h.1 (both_right (and_also (name_right declared before f.0 (told_of k f.1).first) ((told_of k f.1).check s)) (fields_right declared (before ++ f.0 ∷ []) (with_told k fs) s) g) in
      record {
        declares = if_all (contains declared f.0) (all_in (names fs) declared) (is_known (contains declared f.0) _ (both_left _ _ n)) r.declares;
        fresh = (not_true (contains before f.0) (is_fitting (not (contains before f.0)) _ (both_right _ _ n)), none_before before f.0 (names fs) r.fresh);
        once = and_true (not (contains (names fs) f.0)) (distinct (names fs)) (true_not (contains (names fs) f.0) (none_contains f.0 (names fs) (all_differ before f.0 (names fs) r.fresh))) r.once;
        parts = and_true (part_of step k f.1).right (all_parts (map (λ (f : List ℕ × Part). f.1) (with_parts step k fs))) (h.0.1 v) r.parts;
      }

  new_is : (at : ℕ) (w : List ℕ) (fs : List (List ℕ × Expr)) → Each FineField fs → Fine (e.New at (bean_number k.names w) fs)
  new_is at w fs h =
      made (e.New at (bean_number k.names w) fs) _ _ (told_new k at (bean_number k.names w) fs) (right_new step k at (bean_number k.names w) fs) refl (λ g.
      let n : new_right k at (bean_number k.names w) (map (λ (f : List ℕ × Told). f.0) (with_told k fs)) ≡ right = both_left _ _ g in
      let c : (bean_number k.names w == no_number) ≡ false = known_number (bean_number k.names w) (later at 1) (both_left _ _ n) in
      let p : At (λ (x : BeanDecl). x.name) k.names.beans w (bean_number k.names w) = at_place (λ (x : BeanDecl). x.name) k.names.beans w c in
      let a : all_in (fields_of (slice_get k.names.beans (bean_number k.names w))) (map (λ (f : List ℕ × Told). f.0) (with_told k fs)) ≡ true = is_fitting _ _ (both_right _ _ n) in
      let r : FieldsRight (fields_of (slice_get k.names.beans (bean_number k.names w))) [] fs = fields_are (fields_of (slice_get k.names.beans (bean_number k.names w))) [] fs h (both_right _ _ g) in
      and_true (each_field_once (slice_get k.names.beans (bean_number k.names w)) (names fs)) (all_parts (map (λ (f : List ℕ × Part). f.1) (with_parts step k fs)))
      (once_by (slice_get k.names.beans (bean_number k.names w)) p.x (names fs) p.gets (ap (all_in (fields_of (slice_get k.names.beans (bean_number k.names w)))) (sym (names_same fs)) ∙ a) r.declares r.once) r.parts)

  -- ---- fields of an expression

  link_is : (a b : Bool) (ls : List Link) → a ≡ b → link_right k a ls ≡ right → (not b || first_in k.fields ls) ≡ true
  link_is true true [] m g = refl
  link_is true true (l ∷ ls) m g = is_known (contains k.fields l.field) (later l.dot 1) g
  link_is false false ls m g = refl
  link_is true false ls m g = refl
  link_is false true ls m g = absurd cc

  fields_is : (x : Expr) (ls : List Link) → Fine x → Fine (e.Fields x ls)
  fields_is x ls q =
      made (e.Fields x ls) _ _ (told_fields k x ls) (right_fields step k x ls) refl (λ g.
      and_true (part_of step k x).right (not (part_of step k x).me || first_in k.fields ls) (q.1 (both_left ((told_of k x).check s) (link_right k (told_of k x).me ls) g))
      (link_is (told_of k x).me (part_of step k x).me ls q.0 (both_right ((told_of k x).check s) (link_right k (told_of k x).me ls) g)))

  -- ---- primaries

  get_is : (at w : ℕ) → step ≡ true → Fine (e.Get at w)
  get_is at w h =
      made (e.Get at w) _ _ (told_get k at w) (right_get step k at w) refl (λ g.
      let t : taken_right k at w ≡ right = both_left _ _ g in
      and_true (step && consumed k.consumes w) (kind_is is_simple (slice_get k.names.items w)) (and_true step (consumed k.consumes w) h (is_fitting (consumed k.consumes w) (later at 1) (both_right _ _ t)))
      (is_fitting (kind_is is_simple (slice_get k.names.items w)) (later at 1) (both_right _ _ g)))

  all_is : (at w : ℕ) → step ≡ true → Fine (e.All at w)
  all_is at w h =
      made (e.All at w) _ _ (told_all k at w) (right_all step k at w) refl (λ g.
      let t : taken_right k at w ≡ right = both_left _ _ g in
      and_true (step && consumed k.consumes w) (kind_is is_several (slice_get k.names.items w)) (and_true step (consumed k.consumes w) h (is_fitting (consumed k.consumes w) (later at 1) (both_right _ _ t)))
      (is_fitting (kind_is is_several (slice_get k.names.items w)) (later at 1) (both_right _ _ g)))

  static_is : (at : ℕ) (f : List ℕ) → not step ≡ true → Fine (e.StaticOf at f)
  static_is at f h = made (e.StaticOf at f) _ _ (told_staticof k at f) (right_staticof step k at f) refl (λ g. and_true (not step) (contains k.statics f) h (is_known (contains k.statics f) (later at 2) g))

  module _ (inner : Form Expr) (fine : Holds inner FineTree) where
    holds_paren : (n : ℕ) → Holds (table.paren step k.names n inner) FineTree
    unfolding table.paren
    holds_paren n =
        holds_opening n Open (λ m at.
        holds_form fine (λ x us q.
        holds_sign m Close (λ _. holds_give (e.Paren at x) (made (e.Paren at x) _ _ (told_paren k at x) (right_paren step k at x) refl q.1))))

    holds_list : (n : ℕ) → Holds (table.listed step k.names n inner) FineTree
    unfolding table.listed
    holds_list n =
        holds_opening n OpenList (λ m at.
        holds_last {Q = λ xs zs. Each Fine xs} (λ xs. e.ListOf at xs) (holds_listed Fine m CloseList fine) (λ xs zs q.
        made (e.ListOf at xs) _ _ (told_listof k at xs) (right_listof step k at xs) refl (parts_right xs q)))

    holds_field : (n : ℕ) → Holds (table.field step k.names n inner) (Tree FineField)
    unfolding table.field
    holds_field n = holds_name n (λ f. holds_sign n Colon (λ _. holds_last {B = List ℕ × Expr} (λ x. (f, x)) fine (λ x us q. q)))

    holds_made : (n : ℕ) → Holds (table.made step k.names n inner) FineTree
    unfolding table.made
    holds_made n =
        holds_sign n New (λ at.
        holds_name n (λ w.
        holds_last {Q = λ fs zs. Each FineField fs} (λ fs. e.New at (bean_number k.names w) fs) (holds_opening n OpenBlock (λ m _. holds_listed FineField m CloseBlock (holds_field m))) (λ fs zs q. new_is at w fs q)))

    holds_primary_of : (n : ℕ) (t : Token) → Holds (table.primary_of step k.names n inner t) FineTree
    unfolding table.got table.all_of table.static_of
    holds_primary_of n (Sign Null) = holds_sign n Null (λ at. holds_give (e.Null at) (made (e.Null at) _ _ (told_null k at) (right_null step k at) refl (λ g. refl)))
    holds_primary_of n (Sign True) = holds_sign n True (λ at. holds_give (e.Bool at true) (made (e.Bool at true) _ _ (told_bool k at true) (right_bool step k at true) refl (λ g. refl)))
    holds_primary_of n (Sign False) = holds_sign n False (λ at. holds_give (e.Bool at false) (made (e.Bool at false) _ _ (told_bool k at false) (right_bool step k at false) refl (λ g. refl)))
    holds_primary_of n (Number v) = holds_here (λ at. holds_number n (λ x. holds_give (e.Long at x) (made (e.Long at x) _ _ (told_long k at x) (right_long step k at x) refl (λ g. refl))))
    holds_primary_of n (Str v) = holds_here (λ at. holds_text n (λ x. holds_give (e.Str at x) (made (e.Str at x) _ _ (told_str k at x) (right_str step k at x) refl (λ g. refl))))
    holds_primary_of n (Name v) = holds_here (λ at. holds_name n (λ x. holds_give (e.Name at x) (made (e.Name at x) _ _ (told_name k at x) (right_name step k at x) refl (λ g. refl))))
    holds_primary_of n (Sign Open) = holds_paren n
    holds_primary_of n (Sign OpenList) = holds_list n
    holds_primary_of n (Sign New) = holds_made n
    holds_primary_of n (Sign Get) = holds_where step n (λ h. holds_sign n Get (λ at. holds_name n (λ w. holds_give (e.Get at (item_number k.names w)) (get_is at (item_number k.names w) h))))
    holds_primary_of n (Sign All) = holds_where step n (λ h. holds_sign n All (λ at. holds_name n (λ w. holds_give (e.All at (item_number k.names w)) (all_is at (item_number k.names w) h))))
    holds_primary_of n (Sign Me) = holds_where (not step) n (λ h. holds_sign n Me (λ at. holds_give (e.Me at) (made (e.Me at) _ _ (told_me k at) (right_me step k at) refl (λ g. h))))
    holds_primary_of n (Sign Static) = holds_where (not step) n (λ h. holds_sign n Static (λ at. holds_sign n Dot (λ _. holds_name n (λ f. holds_give (e.StaticOf at f) (static_is at f h)))))
    holds_primary_of n _ = holds_nothing n

    holds_primary : (n : ℕ) → Holds (table.primary step k.names n inner) FineTree
    unfolding table.primary
    holds_primary n = holds_first n (holds_primary_of n)

    holds_link : (n : ℕ) → Holds (table.link step k.names n) (λ l us. Unit {0})
    unfolding table.link
    holds_link n = holds_sign n Dot (λ dot. holds_name n (λ f. holds_give {A = Link} (record { dot = dot; field = f }) tt))

    holds_postfix : (n : ℕ) → Holds (table.postfix step k.names n inner) FineTree
    unfolding table.postfix
    holds_postfix n =
        holds_form (holds_primary n) (λ x us q.
        holds_optional (is Dot) x
        (holds_form (holds_link n) (λ l vs r.
        holds_last {Q = λ ls zs. Unit {0}} (λ ls. e.Fields x ls) (holds_more (is Dot) (l ∷ []) (holds_link n) (λ ls zs h. tt)) (λ ls zs h. fields_is x ls q)))
        q)

  -- ---- comparisons, sums and conjunctions of unaries

  module _ (n : ℕ) (u : Form Expr) (fine : Holds u FineTree) where
    holds_sum : Holds (table.sum step k.names n u) FineTree
    unfolding table.sum
    holds_sum = holds_chained Fine n Plus e.Sum (λ parts signs h. made (e.Sum parts signs) _ _ (told_sum k parts signs) (right_sum step k parts signs) refl (parts_right parts h)) fine

    two_right : (x y : Expr) → Fine x → Fine y → and_also ((told_of k x).check s) ((told_of k y).check s) ≡ right → ((part_of step k x).right && (part_of step k y).right) ≡ true
    two_right x y p q g =
        and_true (part_of step k x).right (part_of step k y).right (p.1 (both_left ((told_of k x).check s) ((told_of k y).check s) g)) (q.1 (both_right ((told_of k x).check s) ((told_of k y).check s) g))

    holds_compared_of : (x : Expr) → Fine x → (t : Token) → Holds (table.compared_of step k.names n (table.sum step k.names n u) x t) FineTree
    holds_compared_of x p (Sign Equal) = holds_sign n Equal (λ c. holds_last (λ y. e.Equal x c y) holds_sum (λ y vs q. made (e.Equal x c y) _ _ (told_equal k x c y) (right_equal step k x c y) refl (two_right x y p q)))
    holds_compared_of x p (Sign Less) = holds_sign n Less (λ c. holds_last (λ y. e.Less x c y) holds_sum (λ y vs q. made (e.Less x c y) _ _ (told_less k x c y) (right_less step k x c y) refl (two_right x y p q)))
    holds_compared_of x p _ = holds_nothing n

    holds_comparison : Holds (table.comparison step k.names n (table.sum step k.names n u)) FineTree
    unfolding table.comparison
    holds_comparison = holds_form holds_sum (λ x us q. holds_optional compares x (holds_first n (holds_compared_of x q)) q)

    holds_expr_of : Holds (table.expr_of step k.names n u) FineTree
    unfolding table.expr_of
    holds_expr_of = holds_chained Fine n And e.Both (λ parts signs h. made (e.Both parts signs) _ _ (told_both k parts signs) (right_both step k parts signs) refl (parts_right parts h)) holds_comparison

  -- ---- unaries, by how many more may be open

  holds_unary_of : (n : ℕ) → Holds (table.unary step k.names n) FineTree → (t : Token) → Holds (table.unary_of step k.names n (table.unary step k.names n) t) FineTree
  holds_unary_of n fine (Sign Bang) = holds_sign (suc n) Bang (λ at. holds_last (λ x. e.Not at x) fine (λ x us q. made (e.Not at x) _ _ (told_not k at x) (right_not step k at x) refl q.1))
  holds_unary_of n fine (Sign Len) = holds_sign (suc n) Len (λ at. holds_last (λ x. e.Len at x) fine (λ x us q. made (e.Len at x) _ _ (told_len k at x) (right_len step k at x) refl q.1))
  holds_unary_of n fine _ = holds_postfix (table.expr_of step k.names n (table.unary step k.names n)) (holds_expr_of n (table.unary step k.names n) fine) (suc n)

  holds_unary : (n : ℕ) → Holds (table.unary step k.names n) FineTree
  unfolding table.unary
  holds_unary zero = holds_postfix (nothing 0) (holds_nothing 0) 0
  holds_unary (suc n) = holds_first (suc n) (holds_unary_of n (holds_unary n))

  pub holds_expr : (n : ℕ) → Holds (table.expr step k.names n) FineTree
  unfolding table.expr
  holds_expr n = holds_expr_of n (table.unary step k.names n) (holds_unary n)

  pub holds_inner : (n : ℕ) → Holds (table.inner step k.names n) FineTree
  unfolding table.inner
  holds_inner zero = holds_nothing 0
  holds_inner (suc n) = holds_expr n
