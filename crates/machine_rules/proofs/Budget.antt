-- What becomes of the budget.
use Rattle.std.proofs.Common.{ℕ, zero, suc, ◌+◌, ◌≤◌, ◌⊎◌, inl, inr, List, [], ◌∷◌, Result, Ok, Err, ◌≡◌, refl, sym, ap, subst, arith}
use Rattle.item_types.specs.declared.decl.Names.{Names}
use Rattle.startup_rules.specs.Worlds.{World}
use Rattle.startup_rules.specs.Direct.{Rules, Failure}
use Rattle.machine_rules.specs.declared.action.First.{First}
use Rattle.machine_rules.specs.declared.action.First.TheVariants.{Initializer, Start}
use Rattle.machine_rules.specs.declared.fault.Refusal.{Refusal}
use Rattle.machine_rules.specs.declared.item.Item.{Item}
use Rattle.machine_rules.specs.Machine.{Halt, Refuses, Stops, then, Domain, Program, Reader, Frame, moves, run, first_of, begins}
use Rattle.machine_rules.specs.declared.env.Env.{Env}
use Rattle.machine_rules.specs.Values.{values, startup, opened}
use Rattle.machine_rules.specs.Laws.{with_more, RunsOut}

abbrev Ends : Type 0
Ends = Result (Env × ℕ) (Halt Refusal Failure)

abbrev Values : Type 0
Values = Domain Item Env Failure

abbrev Within : ℕ → Ends → Type 0
Within n (Ok r) = r.1 ≤ n
Within n (Err x) = Unit {0}

within_then : {A : Type 0} (n : ℕ) (m : Result A (Halt Refusal Failure)) (k : A → Ends) → ((a : A) → Within n (k a)) → Within n (then m k)
within_then n (Ok a) k h = h a
within_then n (Err x) k h = tt

within_more : (n m : ℕ) (r : Ends) → n ≤ m → Within n r → Within m r
within_more n m (Ok r) le h = omega (arith, le, h)
within_more n m (Err x) le h = tt

run_within : (d : Values) (read : Reader ℕ) (p : Program ℕ) (n : ℕ) (fs : List (Frame Item ℕ)) (e : Env) → Within n (run d read p n fs e)
run_within d read p zero [] e = omega arith
run_within d read p zero (f ∷ fs) e = tt
run_within d read p (suc n) [] e = omega arith
run_within d read p (suc n) (f ∷ fs) e =
    within_then (suc n) (moves d p f fs (read f.point.class f.point.rest) e) (λ r. run d read p n r.0 r.1) (λ r. within_more n (suc n) (run d read p n r.0 r.1) (omega arith) (run_within d read p n r.0 r.1))

begins_within : (d : Values) (read : Reader ℕ) (p : Program ℕ) (name : First) (n : ℕ) (e : Env) → Within n (begins d read p name n e)
begins_within d read p name n e = within_then n (first_of p name (p.first name)) (λ fs. run d read p n fs e) (λ fs. run_within d read p n fs e)

within_both : (n : ℕ) (r : Ends) (k : Env × ℕ → Ends) → Within n r → ((e : Env) (m : ℕ) → Within m (k (e, m))) → Within n (then r k)
within_both n (Ok r) k h next = within_more r.1 n (k (r.0, r.1)) h (next r.0 r.1)
within_both n (Err x) k h next = tt

pub budget_is_spent : (g : Rules) (names : Names) (read : Reader ℕ) (p : Program ℕ) (budget : ℕ) (w : World) (e : Env) (left : ℕ) → startup g names read p budget w ≡ Ok (e, left) → left ≤ budget
budget_is_spent g names read p budget w e left q =
    let d = values g names in
    subst (λ (r : Ends). Within budget r) q
    (within_both budget (begins d read p Initializer budget (opened p.fields w)) (λ r. begins d read p Start r.1 r.0) (begins_within d read p Initializer budget (opened p.fields w)) (λ e m. begins_within d read p Start m e))

-- With more of it

abbrev Enough : ℕ → Ends → Ends → Type 0
Enough more r s = RunsOut r ⊎ (s ≡ with_more more r)

enough_then : {A : Type 0} (more : ℕ) (m : Result A (Halt Refusal Failure)) (k h : A → Ends) → ((a : A) → Enough more (k a) (h a)) → Enough more (then m k) (then m h)
enough_then more (Ok a) k h next = next a
enough_then more (Err x) k h next = inr refl

enough_both : (more : ℕ) (r s : Ends) (k : Env × ℕ → Ends) → Enough more r s → ((e : Env) (n : ℕ) → Enough more (k (e, n)) (k (e, n + more))) → Enough more (then r k) (then s k)
enough_both more (Ok r) s k (inl x) next = absurd x
enough_both more (Ok r) s k (inr q) next = subst (λ (z : Ends). Enough more (k (r.0, r.1)) (then z k)) (sym q) (next r.0 r.1)
enough_both more (Err (Refuses y)) s k (inl x) next = inl x
enough_both more (Err (Refuses y)) s k (inr q) next = inr (ap (λ (z : Ends). then z k) q)
enough_both more (Err (Stops y)) s k (inl x) next = absurd x
enough_both more (Err (Stops y)) s k (inr q) next = inr (ap (λ (z : Ends). then z k) q)

run_none : (d : Values) (read : Reader ℕ) (p : Program ℕ) (n : ℕ) (e : Env) → run d read p n [] e ≡ Ok (e, n)
run_none d read p zero e = refl
run_none d read p (suc n) e = refl

run_enough : (d : Values) (read : Reader ℕ) (p : Program ℕ) (more n : ℕ) (fs : List (Frame Item ℕ)) (e : Env) → Enough more (run d read p n fs e) (run d read p (n + more) fs e)
run_enough d read p more zero [] e = inr (run_none d read p (0 + more) e)
run_enough d read p more zero (f ∷ fs) e = inl refl
run_enough d read p more (suc n) [] e = inr (run_none d read p (suc n + more) e)
run_enough d read p more (suc n) (f ∷ fs) e =
    let z : suc n + more ≡ suc (n + more) = omega arith in
    subst (λ (m : ℕ). Enough more (run d read p (suc n) (f ∷ fs) e) (run d read p m (f ∷ fs) e)) (sym z)
    (enough_then more (moves d p f fs (read f.point.class f.point.rest) e) (λ r. run d read p n r.0 r.1) (λ r. run d read p (n + more) r.0 r.1) (λ r. run_enough d read p more n r.0 r.1))

begins_enough : (d : Values) (read : Reader ℕ) (p : Program ℕ) (name : First) (more n : ℕ) (e : Env) → Enough more (begins d read p name n e) (begins d read p name (n + more) e)
begins_enough d read p name more n e =
    enough_then more (first_of p name (p.first name)) (λ fs. run d read p n fs e) (λ fs. run d read p (n + more) fs e) (λ fs. run_enough d read p more n fs e)

pub enough_is_enough : (g : Rules) (names : Names) (read : Reader ℕ) (p : Program ℕ) (budget more : ℕ) (w : World) → Enough more (startup g names read p budget w) (startup g names read p (budget + more) w)
enough_is_enough g names read p budget more w =
    let d = values g names in
    enough_both more (begins d read p Initializer budget (opened p.fields w)) (begins d read p Initializer (budget + more) (opened p.fields w)) (λ r. begins d read p Start r.1 r.0)
    (begins_enough d read p Initializer more budget (opened p.fields w)) (λ e n. begins_enough d read p Start more n e)
