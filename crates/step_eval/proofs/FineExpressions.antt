-- The value of each expression is within the bounds, a fact that is closed holds of it where it does of what was taken and of the names in scope, and nothing but it is left behind.
use Rattle.std.proofs.Common.{◌≡◌, ℕ, Ok, Err, true, false, not, if◌then◌else◌, suc, length, refl, ap, List, [], ◌∷◌, map, drop, slice_index, slice_get, sym, subst}
use Rattle.std.specs.List.{All}
use Rattle.std.proofs.lemmas.List.Elements.{All-nil, All-cons, All-same}
use Rattle.item_types.specs.Named.{fields_of}
use Rattle.item_types.specs.declared.value.Value.{Value}
use Rattle.item_types.specs.declared.value.Value.TheVariants as value
use Rattle.syntax_tree.specs.declared.tree.Link.{Link}
use Rattle.syntax_tree.specs.declared.tree.Expr.{Expr, roll-Expr, map-Expr, ind-Expr, fold-roll-Expr}
use Rattle.syntax_tree.specs.declared.tree.Expr.TheOpen.{Expr-F}
use Rattle.syntax_tree.specs.declared.tree.Expr.TheOpen as form
use Rattle.step_state.specs.declared.state.State.{State}
use Rattle.step_state.specs.Evaluation.{Checked, Eval, ◌>>=◌, pure, lift, and_then}
use Rattle.step_eval.specs.Expressions.{Part, all, named, added, sum, sum_from, both_from, chain, new_of, counted, expr_step, meaning}
use Rattle.step_state.specs.Operations.{text, plus, less, equal, truth, count, field, arranged}
use Rattle.step_state.specs.Scoped.{look}
use Rattle.step_eval.specs.Setting.{Setting}
use Rattle.step_state.specs.Spending.{made, made_list, made_bean}
use Rattle.step_eval.specs.Taken.{taken, first_of}
use Rattle.step_eval.proofs.Rightly.{AllRight, NamedRight, Opens}
use Rattle.step_eval.proofs.Leaves.{Leaves, in_turn, lifted, weaker, Stays, stays, stays_on, Comes, IsSized, IsCounted, IsHeld, comes_after, made_after, counted_after, held_after, list_counted, bean_counted}
use Rattle.step_eval.proofs.Closed.{Always, IsClosed, NamedHave, Only, text_has, plus_has, less_has, equal_has, count_has, field_has, found_has, arranged_have, arranged_count, taken_have, first_has}

-- the state is left
abbrev pub IsStill : {A : Type 0} → Eval A → Type 0
IsStill p = (s : State) → Leaves (λ a t. Stays s t) (p s)

lift_still : {A : Type 0} (o : Checked A) (s t : State) → Stays s t → Leaves (λ a u. Stays s u) (lift o t)
lift_still o s t h = lifted (λ a u. Stays s u) o t (λ a. h)

go_on : {A : Type 0} (p : Eval A) (s t : State) → Stays s t → IsStill p → Leaves (λ a u. Stays s u) (p t)
go_on p s t h k = weaker (λ a u. Stays t u) (λ a u. Stays s u) (p t) (λ a u m. stays_on s t u h m) (k t)

module _ (W : ℕ → ℕ → Type 0) (P : Value → Type 0) (C : IsClosed W P) where
  -- its value is within the bounds, P holds of it where it does of those before, and the state is left
  pub record IsFine (p : Part) : Type 0 where
    pub fine : (s : State) → Leaves (IsCounted W P C s) (p.eval s)

  -- the same, but for the bounds
  abbrev IsPlain : Eval Value → Type 0
  IsPlain p = (s : State) → Leaves (IsHeld W P C s) (p s)

  abbrev pub AllFine : List Part → Type 0
  AllFine [] = Unit {0}
  AllFine (p ∷ ps) = IsFine p × AllFine ps

  abbrev AllNamedFine : List (List ℕ × Part) → Type 0
  AllNamedFine [] = Unit {0}
  AllNamedFine (p ∷ ps) = IsFine p.1 × AllNamedFine ps

  -- values within the bounds, and the state before
  pub record AreCounted (ps : List Part) (s : State) (vs : List Value) (t : State) : Type 0 where
    pub count : length vs ≡ length ps
    pub sized : All IsSized vs
    pub come : NamedHave W P C s.scope → All P vs
    pub still : Stays s t

  record AreNamed (s : State) (vs : List (List ℕ × Value)) (t : State) : Type 0 where
    come : NamedHave W P C s.scope → NamedHave W P C vs
    still : Stays s t

  scope_after : (s t : State) → Stays s t → NamedHave W P C s.scope → NamedHave W P C t.scope
  scope_after s t h m = All-same (λ e. P e.1) t.scope s.scope h.same_scope m

  lift_held : (o : Checked Value) (s t : State) → Stays s t → (NamedHave W P C s.scope → Only P o) → Leaves (IsHeld W P C s) (lift o t)
  lift_held (Ok v) s t h k = record { comes = k; still = h }
  lift_held (Err e) s t h k = tt

  go_counted : (p : Eval Value) (s t : State) → Stays s t → Leaves (IsCounted W P C t) (p t) → Leaves (IsCounted W P C s) (p t)
  go_counted p s t h k = weaker (IsCounted W P C t) (IsCounted W P C s) (p t) (λ v u m. counted_after W P C s t u v h m) k

  go_held : (p : Eval Value) (s t : State) → Stays s t → Leaves (IsHeld W P C t) (p t) → Leaves (IsHeld W P C s) (p t)
  go_held p s t h k = weaker (IsHeld W P C t) (IsHeld W P C s) (p t) (λ v u m. held_after W P C s t u v h m) k

  -- an operation on the value of a part
  one_op : {A : Type 0} (p : Part) (f : Value → Checked A) → IsFine p → (s : State) → Leaves (λ a t. Stays s t) (and_then (p.eval s) (λ r. lift (f r.0) r.1))
  one_op p f h s = in_turn (IsCounted W P C s) (λ a t. Stays s t) (p.eval s) (λ v. lift (f v)) (h.fine s) (λ v t k. lift_still (f v) s t k.still)

  one_value : (p : Part) (f : Value → Checked Value) → IsFine p → ((v : Value) → Only P (f v)) → (s : State) → Leaves (IsHeld W P C s) (and_then (p.eval s) (λ r. lift (f r.0) r.1))
  one_value p f h k s = in_turn (IsCounted W P C s) (IsHeld W P C s) (p.eval s) (λ v. lift (f v)) (h.fine s) (λ v t m. lift_held (f v) s t m.still (λ c. k v))

  -- an operation on the values of two parts
  two_values : (p q : Part) (f : Value → Value → Checked Value) → IsFine p → IsFine q → ((v w : Value) → Only P (f v w)) → (s : State) →
      Leaves (IsHeld W P C s) (and_then (p.eval s) (λ r. and_then (q.eval r.1) (λ u. lift (f r.0 u.0) u.1)))
  two_values p q f h k only s =
      in_turn (IsCounted W P C s) (IsHeld W P C s) (p.eval s) (λ v. q.eval >>= (λ w. lift (f v w))) (h.fine s)
      (λ v t m. go_held (q.eval >>= (λ w. lift (f v w))) s t m.still (one_value q (f v) k (only v) t))

  -- a counted form of what leaves the state
  counted_fine : (at : ℕ) (p : Eval Value) → IsPlain p → IsFine (counted at p)
  counted_fine at p h = record { fine = λ s. in_turn (IsHeld W P C s) (IsCounted W P C s) (p s) (made at) (h s) (λ v t k. made_after W P C at v s t k.still k.comes) }

  pub all_counted : (ps : List Part) → AllFine ps → (s : State) → Leaves (AreCounted ps s) (all ps s)
  all_counted [] h s = record { count = refl; sized = All-nil IsSized; come = λ m. All-nil P; still = stays s }
  all_counted (p ∷ ps) h s =
      in_turn (IsCounted W P C s) (AreCounted (p ∷ ps) s) (p.eval s) (λ v. all ps >>= (λ vs. pure (v ∷ vs))) (h.0.fine s)
      (λ v t k. in_turn (AreCounted ps t) (AreCounted (p ∷ ps) s) (all ps t) (λ vs. pure (v ∷ vs)) (all_counted ps h.1 t)
      (λ vs u m. record {
        count = ap suc m.count;
        sized = All-cons IsSized v vs k.sized m.sized;
        come = λ n. All-cons P v vs (k.comes n) (m.come (scope_after s t k.still n));
        still = stays_on s t u k.still m.still;
      }))

  named_counted : (ps : List (List ℕ × Part)) → AllNamedFine ps → (s : State) → Leaves (AreNamed s) (named ps s)
  named_counted [] h s = record { come = λ m. All-nil (λ e. P e.1); still = stays s }
  named_counted (p ∷ ps) h s =
      in_turn (IsCounted W P C s) (AreNamed s) (p.1.eval s) (λ v. named ps >>= (λ vs. pure ((p.0, v) ∷ vs))) (h.0.fine s)
      (λ v t k. in_turn (AreNamed t) (AreNamed s) (named ps t) (λ vs. pure ((p.0, v) ∷ vs)) (named_counted ps h.1 t)
      (λ vs u m. record {
        come = λ n. All-cons (λ e. P e.1) (p.0, v) vs (k.comes n) (m.come (scope_after s t k.still n));
        still = stays_on s t u k.still m.still;
      }))

  added_plain : (v : Value) (sign : ℕ) (p : Part) → IsFine p → IsPlain (added v sign p)
  unfolding added
  added_plain v sign p h s = one_value p (plus sign v) h (λ w. plus_has W P C sign v w) s

  sum_from_plain : (v : Value) (ps : List Part) (signs : List ℕ) → AllFine ps → (s : State) → Comes W P C s v → Leaves (IsHeld W P C s) (sum_from v ps signs s)
  sum_from_plain v [] signs h s c = record { comes = c; still = stays s }
  sum_from_plain v (p ∷ ps) signs h s c =
      in_turn (IsHeld W P C s) (IsHeld W P C s) (added v (slice_index signs 0) p s) (λ u. sum_from u ps (drop 1 signs)) (added_plain v (slice_index signs 0) p h.0 s)
      (λ u t k. go_held (sum_from u ps (drop 1 signs)) s t k.still (sum_from_plain u ps (drop 1 signs) h.1 t (comes_after W P C s t u k.still k.comes)))

  sum_plain : (ps : List Part) (signs : List ℕ) → AllFine ps → IsPlain (sum ps signs)
  sum_plain [] signs h s = record { comes = λ m. C.null; still = stays s }
  sum_plain (p ∷ ps) signs h s =
      in_turn (IsCounted W P C s) (IsHeld W P C s) (p.eval s) (λ v. sum_from v ps signs) (h.0.fine s)
      (λ v t k. go_held (sum_from v ps signs) s t k.still (sum_from_plain v ps signs h.1 t (comes_after W P C s t v k.still k.comes)))

  both_still : (at : ℕ) (ps : List Part) (signs : List ℕ) → AllFine ps → (s : State) → Leaves (λ b t. Stays s t) (both_from at ps signs s)
  both_still at [] signs h s = stays s
  both_still at (p ∷ ps) signs h s =
      in_turn (λ b t. Stays s t) (λ b t. Stays s t) (and_then (p.eval s) (λ r. lift (truth at r.0) r.1)) (λ b. if b then both_from (slice_index signs 0) ps (drop 1 signs) else pure false)
      (one_op p (truth at) h.0 s)
      (λ b t k. elim b as (λ c. Leaves (λ d u. Stays s u) ((if c then both_from (slice_index signs 0) ps (drop 1 signs) else pure false) t))
      [ true ↦ go_on (both_from (slice_index signs 0) ps (drop 1 signs)) s t k (both_still (slice_index signs 0) ps (drop 1 signs) h.1) | false ↦ k ])

  chain_counted : (cx : Setting) (at : ℕ) (links : List Link) (v : Value) → IsSized v → (s : State) → Comes W P C s v → Leaves (IsCounted W P C s) (chain cx at links v s)
  chain_counted cx at [] v h s c = record { sized = h; comes = c; still = stays s }
  chain_counted cx at (l ∷ ls) v h s c =
      in_turn (IsCounted W P C s) (IsCounted W P C s) (and_then (lift (field cx.names l.dot l.field v) s) (λ r. made at r.0 r.1)) (chain cx at ls)
      (in_turn (IsHeld W P C s) (IsCounted W P C s) (lift (field cx.names l.dot l.field v) s) (made at)
      (lift_held (field cx.names l.dot l.field v) s s (stays s) (λ m. field_has W P C cx.names l.dot l.field v (c m))) (λ w t k. made_after W P C at w s t k.still k.comes))
      (λ w t k. go_counted (chain cx at ls w) s t k.still (chain_counted cx at ls w k.sized t (comes_after W P C s t w k.still k.comes)))

  new_fine : (cx : Setting) (at bean : ℕ) (fields : List (List ℕ × Part)) → W bean (length (fields_of (slice_get cx.names.beans bean))) → AllNamedFine fields → IsFine (record { first = at; eval = new_of cx at bean fields })
  unfolding new_of
  new_fine cx at bean fields w h = record {
    fine = λ s. in_turn (AreNamed s) (IsCounted W P C s) (named fields s) (λ vs. made_bean at cx.step bean (arranged (fields_of (slice_get cx.names.beans bean)) vs))
        (named_counted fields h s)
        (λ vs t k. bean_counted W P C at cx.step bean (arranged (fields_of (slice_get cx.names.beans bean)) vs) s t (subst (W bean) (sym (arranged_count W P C (fields_of (slice_get cx.names.beans bean)) vs)) w) k.still (λ m. arranged_have W P C (fields_of (slice_get cx.names.beans bean)) vs (k.come m)));
  }

  -- a value that is there
  plain : (v : Value) → P v → IsPlain (pure v)
  plain v f s = record { comes = λ m. f; still = stays s }

  -- P holds of what was taken
  abbrev pub TakenFrom : Setting → Type 0
  TakenFrom cx = All (λ vs. All P vs) cx.lists

  module _ (cx : Setting) (Right : Expr → Type 0) (opens : (y : Expr-F Expr) → Right (roll-Expr y) → Opens W cx Right y) where
    -- an expression of which it is known, where it is right
    abbrev Known : Type 0
    Known = (e : Expr) × (Right e → IsFine (meaning cx e))

    known_fine : (es : List Known) → AllRight W cx Right (map (λ e. e.0) es) → AllFine (map (meaning cx) (map (λ e. e.0) es))
    known_fine [] r = tt
    known_fine (e ∷ es) r = (e.1 r.0, known_fine es r.1)

    known_named : (fs : List (List ℕ × Known)) → NamedRight W cx Right (map (λ (f : List ℕ × Known). (f.0, f.1.0)) fs) → AllNamedFine (map (λ (f : List ℕ × Expr). (f.0, meaning cx f.1)) (map (λ (f : List ℕ × Known). (f.0, f.1.0)) fs))
    known_named [] r = tt
    known_named (f ∷ fs) r = (f.1.1 r.0, known_named fs r.1)

    layer : TakenFrom cx → (y : Expr-F Known) → Opens W cx Right (map-Expr Known Expr (λ e. e.0) y) → IsFine (expr_step cx (map-Expr Expr Part (meaning cx) (map-Expr Known Expr (λ e. e.0) y)))
    layer h (form.Null at) r = counted_fine at (pure value.Null) (plain value.Null C.null)
    layer h (form.Bool at b) r = counted_fine at (pure (value.Bool b)) (plain (value.Bool b) (C.truth b))
    layer h (form.Long at n) r = counted_fine at (pure (value.Long n)) (plain (value.Long n) (C.number n))
    layer h (form.Str at t) r = counted_fine at (lift (text t)) (λ s. lift_held (text t) s s (stays s) (λ m. text_has W P C t))
    layer h (form.Name at name) r = counted_fine at (look name) (λ s. record { comes = λ m. found_has W P C s.scope name m; still = stays s })
    layer h (form.Get at item) r = counted_fine at (pure (first_of (taken cx item))) (plain (first_of (taken cx item)) (first_has W P C (taken cx item) (taken_have W P C cx item h)))
    layer h (form.All at item) r = record { fine = λ s. list_counted W P C at cx.step (taken cx item) s s (stays s) (λ m. taken_have W P C cx item h) }
    layer h (form.New at bean fields) r = new_fine cx at bean _ r.0 (known_named fields r.1)
    layer h (form.ListOf at es) r = record {
      fine = λ s. in_turn (AreCounted (map (meaning cx) (map (λ e. e.0) es)) s) (IsCounted W P C s) (all (map (meaning cx) (map (λ e. e.0) es)) s) (made_list at cx.step)
          (all_counted (map (meaning cx) (map (λ e. e.0) es)) (known_fine es r) s) (λ vs t k. list_counted W P C at cx.step vs s t k.still k.come);
    }
    layer h (form.Fields e links) r = record {
      fine = λ s. in_turn (IsCounted W P C s) (IsCounted W P C s) ((meaning cx e.0).eval s) (chain cx (meaning cx e.0).first links)
          ((e.1 r).fine s) (λ v t k. go_counted (chain cx (meaning cx e.0).first links v) s t k.still (chain_counted cx (meaning cx e.0).first links v k.sized t (comes_after W P C s t v k.still k.comes)));
    }
    layer h (form.Len at e) r = counted_fine at ((meaning cx e.0).eval >>= (λ v. lift (count at v))) (one_value (meaning cx e.0) (count at) (e.1 r) (count_has W P C at))
    layer h (form.Not at e) r = counted_fine at ((meaning cx e.0).eval >>= (λ v. lift (truth at v)) >>= (λ b. pure (value.Bool (not b))))
        (λ s. in_turn (λ b t. Stays s t) (IsHeld W P C s) (and_then ((meaning cx e.0).eval s) (λ r. lift (truth at r.0) r.1)) (λ b. pure (value.Bool (not b))) (one_op (meaning cx e.0) (truth at) (e.1 r) s)
        (λ b t k. record { comes = λ m. C.truth (not b); still = k }))
    layer h (form.Sum es signs) r = counted_fine _ (sum (map (meaning cx) (map (λ e. e.0) es)) signs) (sum_plain (map (meaning cx) (map (λ e. e.0) es)) signs (known_fine es r))
    layer h (form.Both es signs) r = counted_fine _ (both_from (slice_index signs 0) (map (meaning cx) (map (λ e. e.0) es)) signs >>= (λ b. pure (value.Bool b)))
        (λ s. in_turn (λ b t. Stays s t) (IsHeld W P C s) (both_from (slice_index signs 0) (map (meaning cx) (map (λ e. e.0) es)) signs s) (λ b. pure (value.Bool b))
        (both_still (slice_index signs 0) (map (meaning cx) (map (λ e. e.0) es)) signs (known_fine es r) s) (λ b t k. record { comes = λ m. C.truth b; still = k }))
    layer h (form.Equal a sign b) r = counted_fine _ ((meaning cx a.0).eval >>= (λ v. (meaning cx b.0).eval >>= (λ w. lift (equal sign v w)))) (two_values (meaning cx a.0) (meaning cx b.0) (equal sign) (a.1 r.0) (b.1 r.1) (equal_has W P C sign))
    layer h (form.Less a sign b) r = counted_fine _ ((meaning cx a.0).eval >>= (λ v. (meaning cx b.0).eval >>= (λ w. lift (less sign v w)))) (two_values (meaning cx a.0) (meaning cx b.0) (less sign) (a.1 r.0) (b.1 r.1) (less_has W P C sign))
    layer h (form.Paren at e) r = record { fine = (e.1 r).fine }
    layer h (form.Me at) r = counted_fine at (pure value.Null) (plain value.Null C.null)
    layer h (form.StaticOf at f) r = counted_fine at (pure value.Null) (plain value.Null C.null)

    -- the value of a right expression is within the bounds, and the state but its sums is left
    pub fine_expression : TakenFrom cx → (e : Expr) → Right e → IsFine (meaning cx e)
    fine_expression h = ind-Expr (λ e. Right e → IsFine (meaning cx e)) (λ x y is.
        subst (λ z. Right (roll-Expr z) → IsFine (meaning cx (roll-Expr z))) is
        (λ r. subst (λ p. IsFine p) (sym (fold-roll-Expr Part (expr_step cx) (map-Expr Known Expr (λ e. e.0) y))) (layer h y (opens (map-Expr Known Expr (λ e. e.0) y) r))))

    pub fine_expressions : TakenFrom cx → (es : List Expr) → AllRight W cx Right es → AllFine (map (meaning cx) es)
    fine_expressions h [] r = tt
    fine_expressions h (e ∷ es) r = (fine_expression h e r.0, fine_expressions h es r.1)

-- a fact of all values
abbrev pub Any : Value → Type 0
Any v = Unit {0}

pub any_closed : IsClosed Always Any
any_closed = record {
  null = tt;
  truth = λ b. tt;
  number = λ n. tt;
  short = λ t h. tt;
  list = λ id parts h. tt;
  bean = λ id bean parts w h. tt;
  of_list = λ v id parts e h i x at. tt;
  of_bean = λ v id bean parts e h i x at. tt;
}

pub any_taken : (cx : Setting) → TakenFrom Always Any any_closed cx
any_taken cx k vs at i v here = tt
