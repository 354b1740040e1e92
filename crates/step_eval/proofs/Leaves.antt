-- What an evaluation leaves, where it comes to its end.
use Rattle.std.proofs.Common.{◌≡◌, ℕ, ◌≤◌, ◌+◌, Bool, true, false, nat_lt, if◌then◌else◌, List, length, Ok, Err, refl, sym, subst, ◌∙◌, arith}
use Rattle.std.specs.List.{All}
use Rattle.std.proofs.lemmas.Bool.Decides.{nat_tests}
use Rattle.std.proofs.lemmas.List.Elements.{All-same}
use Rattle.item_types.specs.Measure.{cells, text_len, depth}
use Rattle.item_types.specs.declared.value.NodeId.{NodeId}
use Rattle.item_types.specs.declared.value.Value.{Value}
use Rattle.item_types.specs.declared.value.Value.TheVariants as value
use Rattle.step_state.specs.declared.outcome.Reason.TheVariants.{TooDeep, TooManyCells, TooMuchText}
use Rattle.step_state.specs.declared.state.State.{State}
use Rattle.step_state.specs.Evaluation.{Checked, Eval, and_then, lift}
use Rattle.step_state.specs.Spending.{made, made_list, made_bean}
use Rattle.step_eval.specs.NextNode.{IsNextNode}
use Rattle.step_eval.proofs.Closed.{IsClosed, NamedHave}

-- where the evaluation comes to its end, its value and state are so
abbrev pub Leaves : {A : Type 0} → (A → State → Type 0) → Checked (A × State) → Type 0
Leaves Q (Ok r) = Q r.0 r.1
Leaves Q (Err e) = Unit {0}

-- first one evaluation, then another
pub in_turn : {A B : Type 0} (Q : A → State → Type 0) (R : B → State → Type 0) (o : Checked (A × State)) (f : A → Eval B) → Leaves Q o →
    ((a : A) (t : State) → Q a t → Leaves R (f a t)) → Leaves R (and_then o (λ r. f r.0 r.1))
in_turn Q R (Ok r) f h k = k r.0 r.1 h
in_turn Q R (Err e) f h k = tt

-- a test leaves the state
pub lifted : {A : Type 0} (R : A → State → Type 0) (o : Checked A) (s : State) → ((a : A) → R a s) → Leaves R (lift o s)
lifted R (Ok a) s h = h a
lifted R (Err e) s h = tt

pub weaker : {A : Type 0} (Q R : A → State → Type 0) (o : Checked (A × State)) → ((a : A) (t : State) → Q a t → R a t) → Leaves Q o → Leaves R o
weaker Q R (Ok r) k h = k r.0 r.1 h
weaker Q R (Err e) k h = tt

-- an expression leaves what is produced, what is recorded and the names in scope, and makes nodes
pub record Stays (s t : State) : Type 0 where
  pub same_puts : t.puts ≡ s.puts
  pub same_calls : t.calls ≡ s.calls
  pub same_call_cells : t.call_cells ≡ s.call_cells
  pub same_call_text : t.call_text ≡ s.call_text
  pub same_scope : t.scope ≡ s.scope
  pub more_nodes : s.nodes ≤ t.nodes

pub stays : (s : State) → Stays s s
stays s = record { same_puts = refl; same_calls = refl; same_call_cells = refl; same_call_text = refl; same_scope = refl; more_nodes = omega arith }

pub stays_on : (s t u : State) → Stays s t → Stays t u → Stays s u
stays_on s t u h k = record {
  same_puts = k.same_puts ∙ h.same_puts;
  same_calls = k.same_calls ∙ h.same_calls;
  same_call_cells = k.same_call_cells ∙ h.same_call_cells;
  same_call_text = k.same_call_text ∙ h.same_call_text;
  same_scope = k.same_scope ∙ h.same_scope;
  more_nodes = omega (arith, h.more_nodes, k.more_nodes);
}

not_above : (n d : ℕ) → nat_lt n d ≡ false → d ≤ n
not_above n d h = grind (arith, nat_tests)

-- the sums of a value are within the bounds
pub record IsSized (v : Value) : Type 0 where
  pub depth_in : depth v ≤ 64
  pub cells_in : cells v ≤ 65536
  pub text_in : text_len v ≤ 1048576

module _ (W : ℕ → ℕ → Type 0) (P : Value → Type 0) (C : IsClosed W P) where
  -- P holds of the value, where it does of the values of the names in scope
  abbrev pub Comes : State → Value → Type 0
  Comes s v = NamedHave W P C s.scope → P v

  -- a value within the bounds, and the state before
  pub record IsCounted (s : State) (v : Value) (t : State) : Type 0 where
    pub sized : IsSized v
    pub comes : Comes s v
    pub still : Stays s t

  -- a value that isn't counted yet, and the state before
  pub record IsHeld (s : State) (v : Value) (t : State) : Type 0 where
    pub comes : Comes s v
    pub still : Stays s t

  -- the same after what left the state
  pub comes_before : (s t : State) (v : Value) → Stays s t → Comes t v → Comes s v
  comes_before s t v h k m = k (All-same (λ e. P e.1) t.scope s.scope h.same_scope m)

  pub comes_after : (s t : State) (v : Value) → Stays s t → Comes s v → Comes t v
  comes_after s t v h k m = k (All-same (λ e. P e.1) s.scope t.scope (sym h.same_scope) m)

  made_at : (at : ℕ) (v : Value) (s : State) → Comes s v → (deep many much : Bool) → nat_lt 64 (depth v) ≡ deep → nat_lt 65536 (s.cells + cells v) ≡ many → nat_lt 1048576 (s.text + text_len v) ≡ much →
      Leaves (IsCounted s) (if deep then Err (TooDeep at)
      else (if many then Err TooManyCells
      else (if much then Err TooMuchText
      else Ok (v, record s { cells = s.cells + cells v; text = s.text + text_len v }))))
  made_at at v s c true many much d m u = tt
  made_at at v s c false true much d m u = tt
  made_at at v s c false false true d m u = tt
  made_at at v s c false false false d m u =
      let d' : depth v ≤ 64 = not_above 64 (depth v) d in
      let m' : s.cells + cells v ≤ 65536 = not_above 65536 (s.cells + cells v) m in
      let u' : s.text + text_len v ≤ 1048576 = not_above 1048576 (s.text + text_len v) u in
      record {
        sized = record { depth_in = d'; cells_in = omega arith; text_in = omega arith };
        comes = c;
        still = record { same_puts = refl; same_calls = refl; same_call_cells = refl; same_call_text = refl; same_scope = refl; more_nodes = omega arith };
      }

  -- the value of an expression is within the bounds
  made_counted : (at : ℕ) (v : Value) (s : State) → Comes s v → Leaves (IsCounted s) (made at v s)
  made_counted at v s c = made_at at v s c (nat_lt 64 (depth v)) (nat_lt 65536 (s.cells + cells v)) (nat_lt 1048576 (s.text + text_len v)) refl refl refl

  pub counted_after : (s t u : State) (v : Value) → Stays s t → IsCounted t v u → IsCounted s v u
  counted_after s t u v h k = record { sized = k.sized; comes = comes_before s t v h k.comes; still = stays_on s t u h k.still }

  pub held_after : (s t u : State) (v : Value) → Stays s t → IsHeld t v u → IsHeld s v u
  held_after s t u v h k = record { comes = comes_before s t v h k.comes; still = stays_on s t u h k.still }

  pub made_after : (at : ℕ) (v : Value) (s t : State) → Stays s t → Comes s v → Leaves (IsCounted s) (made at v t)
  made_after at v s t h c = weaker (IsCounted t) (IsCounted s) (made at v t) (λ w u k. counted_after s t u w h k) (made_counted at v t (comes_after s t v h c))

  pub list_counted : (at step : ℕ) (parts : List Value) (s t : State) → Stays s t → (NamedHave W P C s.scope → All P parts) → Leaves (IsCounted s) (made_list at step parts t)
  unfolding made_list
  list_counted at step parts s t h c =
      made_after at _ s (record t { nodes = t.nodes + 1 })
      (record { same_puts = h.same_puts; same_calls = h.same_calls; same_call_cells = h.same_call_cells; same_call_text = h.same_call_text; same_scope = h.same_scope; more_nodes = omega (arith, h.more_nodes) }) (λ m. C.list _ parts (c m))

  pub bean_counted : (at step bean : ℕ) (parts : List Value) (s t : State) → W bean (length parts) → Stays s t → (NamedHave W P C s.scope → All P parts) → Leaves (IsCounted s) (made_bean at step bean parts t)
  unfolding made_bean
  bean_counted at step bean parts s t w h c =
      made_after at _ s (record t { nodes = t.nodes + 1 })
      (record { same_puts = h.same_puts; same_calls = h.same_calls; same_call_cells = h.same_call_cells; same_call_text = h.same_call_text; same_scope = h.same_scope; more_nodes = omega (arith, h.more_nodes) }) (λ m. C.bean _ bean parts w (c m))

-- a value that is counted, unless one of these limits is passed
abbrev tested : ℕ → Value → State → Bool → Bool → Bool → Checked (Value × State)
tested at v t deep many much =
    if deep then Err (TooDeep at)
    else (if many then Err TooManyCells
    else (if much then Err TooMuchText
    else Ok (v, record t { cells = t.cells + cells v; text = t.text + text_len v })))

-- a new node has the next number
next_node_at : (at step : ℕ) (node_of : NodeId → Value) (s : State) (v : Value) (t : State) → v ≡ node_of (record { step = step; k = s.nodes }) → t.nodes ≡ s.nodes + 1 → (deep many much : Bool) →
    Leaves (IsNextNode step node_of s) (tested at v t deep many much)
next_node_at at step node_of s v t n c true many much = tt
next_node_at at step node_of s v t n c false true much = tt
next_node_at at step node_of s v t n c false false true = tt
next_node_at at step node_of s v t n c false false false = record { numbered = n; counted = c }

next_node : (at step : ℕ) (node_of : NodeId → Value) (s u : State) (v w : Value) → v ≡ node_of (record { step = step; k = s.nodes }) →
    made at v (record s { nodes = s.nodes + 1 }) ≡ Ok (w, u) → IsNextNode step node_of s w u
next_node at step node_of s u v w n e = subst (λ (o : Checked (Value × State)). Leaves (IsNextNode step node_of s) o) e
    (next_node_at at step node_of s v (record s { nodes = s.nodes + 1 }) n refl (nat_lt 64 (depth v)) (nat_lt 65536 (s.cells + cells v)) (nat_lt 1048576 (s.text + text_len v)))

pub next_list : (at step : ℕ) (parts : List Value) (before after : State) (v : Value) → made_list at step parts before ≡ Ok (v, after) → IsNextNode step (λ id. value.List id parts) before v after
unfolding made_list
next_list at step parts before after v e =
    next_node at step (λ id. value.List id parts) before after (value.List (record { step = step; k = before.nodes }) parts) v refl e

pub next_bean : (at step bean : ℕ) (parts : List Value) (before after : State) (v : Value) → made_bean at step bean parts before ≡ Ok (v, after) → IsNextNode step (λ id. value.Bean id bean parts) before v after
unfolding made_bean
next_bean at step bean parts before after v e =
    next_node at step (λ id. value.Bean id bean parts) before after (value.Bean (record { step = step; k = before.nodes }) bean parts) v refl e
