-- What a method leaves as it was: an induction over its tree, through operations alone.
use Rattle.std.proofs.Common.{◌≡◌, ℕ, zero, suc, ◌+◌, ◌≤◌, Bool, true, false, List, [], ◌∷◌, ◌++◌, map, take, drop, length, Option, Some, None, Ok, Err, Result, if◌then◌else◌, refl, sym, ap, subst, ◌∙◌}
use Rattle.std.specs.Prelude.{slice_get, slice_index, unwrap_or, nat_le}
use Rattle.item_types.specs.Named.{bean_name}
use Rattle.syntax_tree.specs.declared.tree.Link.{Link}
use Rattle.syntax_tree.specs.declared.tree.Expr.{Expr, roll-Expr, map-Expr, ind-Expr, fold-roll-Expr}
use Rattle.syntax_tree.specs.declared.tree.Expr.TheOpen.{Expr-F}
use Rattle.syntax_tree.specs.declared.tree.Expr.TheOpen as form
use Rattle.syntax_tree.specs.declared.tree.Stmt.{Stmt, roll-Stmt, map-Stmt, ind-Stmt, fold-roll-Stmt}
use Rattle.syntax_tree.specs.declared.tree.Stmt.TheOpen.{Stmt-F}
use Rattle.syntax_tree.specs.declared.tree.Stmt.TheOpen as stmt
use Rattle.startup_rules.specs.Worlds.{World}
use Rattle.startup_rules.specs.declared.fault.Invoked.{Invoked}
use Rattle.operators.specs.Operations.{is_too_long}
use Rattle.startup_rules.specs.declared.slot.Slot.{Slot}
use Rattle.startup_rules.specs.declared.slot.Slot.TheVariants as slot
use Rattle.startup_rules.specs.declared.op.Op.{Op}
use Rattle.startup_rules.specs.declared.op.Op.TheVariants as op
use Rattle.startup_rules.specs.Operations.{Within}
use Rattle.startup_rules.specs.Acting.{Act, Ends, next, ◌>>=◌, ◌>>◌, pure, give, op as made, listed}
use Rattle.startup_rules.specs.Methods.{Env, Setting, text, all, named, sum_from, sum, is_true, test, both_from, chain, expr_step, value, Doing, run, cut, block, maybe, turn, turns, effect, named_value, stmt_step, doing, finished, meaning_of_a_method}
use Rattle.startup_rules.specs.Laws.{Kind, kind, kinds, kind_at, Begins, Adds}
use Rattle.startup_rules.proofs.Adding.{adds_none, adds_more, operation_adds}

-- whatever it comes to, it only adds to the world
record Steady {A : Type 0} (p : Act A) : Type 0 where
  adds : (w : World) → Adds w (p w).1

both : {A B : Type 0} (p : Act A) (f : A → Act B) → Steady p → ((a : A) → Steady (f a)) → Steady (p >>= f)
both p f one each = record { adds = λ w. go w (p w).0 (p w).1 (one.adds w) }
  where
    go : (w : World) (r : Result _ Invoked) (w1 : World) → Adds w w1 → Adds w (next r w1 f).1
    go w (Ok a) w1 h = adds_more w w1 (f a w1).1 h ((each a).adds w1)
    go w (Err x) w1 h = h

after : {A B : Type 0} (p : Act A) (q : Act B) → Steady p → Steady q → Steady (p >> q)
after p q one two = both p (λ _. q) one (λ _. two)

idle : {A : Type 0} (a : A) → Steady (pure a)
idle a = record { adds = λ w. adds_none w }

gives : {A : Type 0} (v : Slot) → Steady (give {A = A} v)
gives v = record { adds = λ w. adds_none w }

lists : (v : Slot) → Steady (listed v)
lists v = record { adds = λ w. adds_none w }

makes : (cx : Within) (o : Op) → Steady (made cx o)
makes cx o = record { adds = λ w. operation_adds cx o w }

abbrev AllSteady : {A : Type 0} → List (Act A) → Type 0
AllSteady [] = Unit {0}
AllSteady (p ∷ ps) = Steady p × AllSteady ps

abbrev NamedSteady : List (List ℕ × Act Slot) → Type 0
NamedSteady [] = Unit {0}
NamedSteady (p ∷ ps) = Steady p.1 × NamedSteady ps

module _ (cx : Setting) where
  text_steady : (t : List ℕ) (b : Bool) → Steady (if b then made cx.within op.LongText else pure (slot.Str t))
  text_steady t true = makes cx.within op.LongText
  text_steady t false = idle (slot.Str t)

  all_steady : (ps : List (Act Slot)) → AllSteady ps → Steady (all ps)
  all_steady [] h = idle []
  all_steady (p ∷ ps) h = both p _ h.0 (λ v. both (all ps) _ (all_steady ps h.1) (λ vs. idle (v ∷ vs)))

  named_steady : (ps : List (List ℕ × Act Slot)) → NamedSteady ps → Steady (named ps)
  named_steady [] h = idle []
  named_steady (p ∷ ps) h = both p.1 _ h.0 (λ v. both (named ps) _ (named_steady ps h.1) (λ vs. idle ((p.0, v) ∷ vs)))

  sum_from_steady : (v : Slot) (ps : List (Act Slot)) (signs : List ℕ) → AllSteady ps → Steady (sum_from cx v ps signs)
  sum_from_steady v [] signs h = idle v
  sum_from_steady v (p ∷ ps) signs h =
      both (p >>= (λ w. made cx.within (op.Plus v w (slice_index signs 0)))) _ (both p _ h.0 (λ w. makes cx.within _)) (λ u. sum_from_steady u ps (drop 1 signs) h.1)

  sum_steady : (ps : List (Act Slot)) (signs : List ℕ) → AllSteady ps → Steady (sum cx ps signs)
  sum_steady [] signs h = idle slot.Null
  sum_steady (p ∷ ps) signs h = both p _ h.0 (λ v. sum_from_steady v ps signs h.1)

  test_steady : (v : Slot) (at : ℕ) → Steady (test cx v at)
  test_steady v at = both (made cx.within (op.Truth v at)) _ (makes cx.within _) (λ b. idle (is_true b))

  go_on : (p : Act Bool) → Steady p → (b : Bool) → Steady (if b then p else pure false)
  go_on p h true = h
  go_on p h false = idle false

  both_from_steady : (at : ℕ) (ps : List (Act Slot)) (signs : List ℕ) → AllSteady ps → Steady (both_from cx at ps signs)
  both_from_steady at [] signs h = idle true
  both_from_steady at (p ∷ ps) signs h =
      both (p >>= (λ v. test cx v at)) _ (both p _ h.0 (λ v. test_steady v at)) (go_on (both_from cx (slice_index signs 0) ps (drop 1 signs)) (both_from_steady (slice_index signs 0) ps (drop 1 signs) h.1))

  chain_steady : (ls : List Link) (v : Slot) → Steady (chain cx ls v)
  chain_steady [] v = idle v
  chain_steady (l ∷ ls) v = both (made cx.within (op.FieldOf v l.field l.dot)) _ (makes cx.within _) (λ u. chain_steady ls u)

  module _ (env : Env) where
    abbrev Known : Type 0
    Known = (e : Expr) × Steady (value cx env e)

    known_all : (es : List Known) → AllSteady (map (value cx env) (map (λ (e : Known). e.0) es))
    known_all [] = tt
    known_all (e ∷ es) = (e.1, known_all es)

    known_named : (fs : List (List ℕ × Known)) → NamedSteady (map (λ (f : List ℕ × Expr). (f.0, value cx env f.1)) (map (λ (f : List ℕ × Known). (f.0, f.1.0)) fs))
    known_named [] = tt
    known_named (f ∷ fs) = (f.1.1, known_named fs)

    layer : (y : Expr-F Known) → Steady (expr_step cx env (map-Expr Expr (Act Slot) (value cx env) (map-Expr Known Expr (λ e. e.0) y)))
    layer (form.Null at) = idle slot.Null
    layer (form.Bool at v) = idle (slot.Bool v)
    layer (form.Long at n) = idle (slot.Long n)
    layer (form.Str at t) = text_steady t (is_too_long t)
    layer (form.Name at name) = idle (named_value env name)
    layer (form.Get at item) = idle slot.Null
    layer (form.All at item) = idle slot.Null
    layer (form.New at bean fields) = both (named (map (λ (f : List ℕ × Expr). (f.0, value cx env f.1)) (map (λ (f : List ℕ × Known). (f.0, f.1.0)) fields))) _ (named_steady _ (known_named fields)) (λ fs. makes cx.within _)
    layer (form.ListOf at es) = both (all (map (value cx env) (map (λ (e : Known). e.0) es))) _ (all_steady _ (known_all es)) (λ vs. makes cx.within _)
    layer (form.Fields e links) = both (value cx env e.0) _ e.1 (λ v. chain_steady links v)
    layer (form.Len at e) = both (value cx env e.0) _ e.1 (λ v. makes cx.within _)
    layer (form.Not at e) = both (value cx env e.0) _ e.1 (λ v. makes cx.within _)
    layer (form.Sum es signs) = sum_steady _ signs (known_all es)
    layer (form.Both es signs) = both (both_from cx (slice_index signs 0) (map (value cx env) (map (λ (e : Known). e.0) es)) signs) _ (both_from_steady (slice_index signs 0) _ signs (known_all es)) (λ b. idle (slot.Bool b))
    layer (form.Equal a sign c) = both (value cx env a.0) _ a.1 (λ v. both (value cx env c.0) _ c.1 (λ u. makes cx.within _))
    layer (form.Less a sign c) = both (value cx env a.0) _ a.1 (λ v. both (value cx env c.0) _ c.1 (λ u. makes cx.within _))
    layer (form.Paren at e) = e.1
    layer (form.Me at) = idle (slot.Obj cx.me)
    layer (form.StaticOf at f) = makes cx.within (op.GetStatic f)

    expression_steady : (e : Expr) → Steady (value cx env e)
    expression_steady = ind-Expr (λ e. Steady (value cx env e)) (λ x y is.
        subst (λ z. Steady (value cx env (roll-Expr z))) is
        (subst (λ (p : Act Slot). Steady p) (sym (fold-roll-Expr (Act Slot) (expr_step cx env) (map-Expr Known Expr (λ e. e.0) y)))
        (layer y)))

  record SteadyStmt (d : Doing) : Type 0 where
    from : (env : Env) → Steady (d env)

  abbrev AllStmts : List Doing → Type 0
  AllStmts [] = Unit {0}
  AllStmts (d ∷ ds) = SteadyStmt d × AllStmts ds

  run_steady : (ds : List Doing) (env : Env) → AllStmts ds → Steady (run ds env)
  run_steady [] env h = idle env
  run_steady (d ∷ ds) env h = both (d env) (run ds) (h.0.from env) (λ env'. run_steady ds env' h.1)

  block_steady : (ds : List Doing) (env : Env) → AllStmts ds → Steady (block ds env)
  block_steady ds env h = both (run ds env) (cut env) (run_steady ds env h) (λ env'. idle (take (length env) env'))

  turn_steady : Steady (turn cx)
  turn_steady = makes cx.within op.Turn

  turns_steady : (name : List ℕ) (vs : List Slot) (ds : List Doing) (env : Env) → AllStmts ds → Steady (turns cx name vs ds env)
  turns_steady name [] ds env h = idle env
  turns_steady name (v ∷ vs) ds env h =
      both (turn cx >> run ds (env ++ (name, v) ∷ []) >>= cut env) (turns cx name vs ds)
      (both (turn cx >> run ds (env ++ (name, v) ∷ [])) (cut env) (after (turn cx) (run ds (env ++ (name, v) ∷ [])) turn_steady (run_steady ds (env ++ (name, v) ∷ []) h)) (λ env'. idle (take (length env) env')))
      (λ env'. turns_steady name vs ds env' h)

  effect_steady : (o : Op) (env : Env) → Steady (effect cx o env)
  effect_steady o env = after (made cx.within o) (pure env) (makes cx.within o) (idle env)

  -- a statement that evaluates one expression first
  first : {A : Type 0} (e : Expr) (env : Env) (f : Slot → Act A) → ((v : Slot) → Steady (f v)) → Steady (turn cx >> value cx env e >>= f)
  first e env f h = both (turn cx >> value cx env e) f (after (turn cx) (value cx env e) turn_steady (expression_steady env e)) h

  abbrev KnownStmt : Type 0
  KnownStmt = (s : Stmt) × SteadyStmt (doing cx s)

  known_stmts : (ss : List KnownStmt) → AllStmts (map (doing cx) (map (λ (s : KnownStmt). s.0) ss))
  known_stmts [] = tt
  known_stmts (s ∷ ss) = (s.1, known_stmts ss)

  abbrev doings : List KnownStmt → List Doing
  doings ss = map (doing cx) (map (λ (s : KnownStmt). s.0) ss)

  if_steady : (at : ℕ) (e : Expr) (ds : List Doing) (other : Option (List Doing)) → AllStmts ds → ((env : Env) → Steady (maybe other env)) → SteadyStmt (stmt_step cx (stmt.If at e ds other))
  if_steady at e ds other h g = record { from = λ env. both (turn cx >> value cx env e >>= (λ v. test cx v at)) _ (first e env _ (λ v. test_steady v at)) (go env) }
    where
      go : (env : Env) (b : Bool) → Steady (if b then block ds env else maybe other env)
      go env true = block_steady ds env h
      go env false = g env

  set_steady : (e : Expr) (o : Env → Slot → Op) → SteadyStmt (λ env. turn cx >> value cx env e >>= (λ v. effect cx (o env v) env))
  set_steady e o = record { from = λ env. first e env _ (λ v. effect_steady (o env v) env) }

  stays : SteadyStmt (λ env. turn cx >> pure env)
  stays = record { from = λ env. after (turn cx) (pure env) turn_steady (idle env) }

  stmt_layer : (y : Stmt-F KnownStmt) → SteadyStmt (stmt_step cx (map-Stmt Stmt Doing (doing cx) (map-Stmt KnownStmt Stmt (λ s. s.0) y)))
  stmt_layer (stmt.Let at name e) = record { from = λ env. first e env _ (λ v. idle (env ++ (name, v) ∷ [])) }
  stmt_layer (stmt.LetCall at name i) = stays
  stmt_layer (stmt.CallOf i) = stays
  stmt_layer (stmt.Produce at item e) = stays
  stmt_layer (stmt.For at name e ds) = record {
    from = λ env.
        both (turn cx >> value cx env e >>= (λ v. made cx.within (op.Rows v at)) >>= listed) _
        (both (turn cx >> value cx env e >>= (λ v. made cx.within (op.Rows v at))) _ (first e env _ (λ v. makes cx.within _)) lists)
        (λ vs. turns_steady name vs (doings ds) env (known_stmts ds));
  }
  stmt_layer (stmt.If at e ds None) = if_steady at e (doings ds) None (known_stmts ds) (λ env. idle env)
  stmt_layer (stmt.If at e ds (Some os)) = if_steady at e (doings ds) (Some (doings os)) (known_stmts ds) (λ env. block_steady (doings os) env (known_stmts os))
  stmt_layer (stmt.FailWith at e) = set_steady e (λ env v. op.FailWith v at)
  stmt_layer (stmt.Print at e) = set_steady e (λ env v. op.Print v at)
  stmt_layer (stmt.Return at e) = record { from = λ env. first e env give gives }
  stmt_layer (stmt.Add at l e) = record { from = λ env. first l env _ (λ a. both (value cx env e) _ (expression_steady env e) (λ v. effect_steady (op.Add a v at) env)) }
  stmt_layer (stmt.SetStatic at f e) = set_steady e (λ env v. op.PutStatic v f)
  stmt_layer (stmt.SetSelf at dot f e) = set_steady e (λ env v. op.Set (slot.Obj cx.me) v f dot)
  stmt_layer (stmt.SetField at dot name f e) = set_steady e (λ env v. op.Set (named_value env name) v f dot)

  statement_steady : (s : Stmt) → SteadyStmt (doing cx s)
  statement_steady = ind-Stmt (λ s. SteadyStmt (doing cx s)) (λ x y is.
      subst (λ z. SteadyStmt (doing cx (roll-Stmt z))) is
      (subst (λ (d : Doing). SteadyStmt d) (sym (fold-roll-Stmt Doing (stmt_step cx) (map-Stmt KnownStmt Stmt (λ s. s.0) y)))
      (stmt_layer y)))

  statements_steady : (ss : List Stmt) → AllStmts (map (doing cx) ss)
  statements_steady [] = tt
  statements_steady (s ∷ ss) = (statement_steady s, statements_steady ss)

  pub method_adds : (ss : List Stmt) (env : Env) (w : World) → Adds w (meaning_of_a_method cx ss env w).1
  method_adds ss env w = (run_steady (map (doing cx) ss) env (statements_steady ss)).adds w

begun : (xs more : List Kind) (o : ℕ) (k : Kind) → slice_get xs o ≡ Some k → slice_get (xs ++ more) o ≡ Some k
begun [] more o k h = absurd (cc)
begun (x ∷ xs) more zero k h = h
begun (x ∷ xs) more (suc o) k h = begun xs more o k h

pub kind_kept : (w w' : World) → Adds w w' → (o : ℕ) (k : Kind) → kind_at w o ≡ Some k → kind_at w' o ≡ Some k
kind_kept w w' a o k h = subst (λ (l : List Kind). slice_get l o ≡ Some k) (sym a.objects.1) (begun (kinds w) a.objects.0 o k h)
