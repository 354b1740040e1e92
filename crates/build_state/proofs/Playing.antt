-- Moves, one by one and in order.
use Rattle.std.proofs.Common.{◌≡◌, ◌≢◌, ℕ, ◌<◌, ◌≤◌, ◌+◌, length, get_or, take, List, [], ◌∷◌, ◌++◌, false, refl, sym, ap, ◌∙◌, subst, Some}
use mathlib.Core.List.{IsPrefix}
use Rattle.std.proofs.lemmas.List.{take_more, take_all}
use Rattle.item_types.specs.declared.value.Value.{Value}
use Rattle.step_state.specs.declared.outcome.Reason.{Reason}
use Rattle.build_history.specs.Jobs.{JobView}
use Rattle.build_state.specs.declared.mark.Mark.TheVariants.{Failing}
use Rattle.build_state.specs.Built.{Built, mark_at, put_one, failed_with}
use Rattle.build_state.specs.Marks.{slot_at, IsState}
use Rattle.build_state.specs.Parts.{AreOpen}
use Rattle.build_state.specs.declared.act.Act.{Act}
use Rattle.build_state.specs.Plays.{Acts, Plays, IsPlayed}
use Rattle.build_state.specs.Turns.{GoesInTurn}
use Rattle.build_state.proofs.Going.{failing_in}

-- the moves go on by one
plays_more : (b m n : Built) (acts : List Act) (a : Act) → Plays b acts m → Acts m a n → Plays b (acts ++ a ∷ []) n
plays_more b m n [] a p q = (n, (let P : Built → Type 0 = λ x. Acts x a n in subst P p q), refl)
plays_more b m n (x ∷ acts) a p q = (p.0, p.1, plays_more p.0 m n acts a p.2 q)

pub plays_step : (b m n : Built) (moves : List Act) (i : ℕ) (d : Act) → i < length moves → Plays b (take i moves) m → Acts m (get_or moves i d) n → Plays b (take (i + 1) moves) n
plays_step b m n moves i d lt p q =
    let P : List Act → Type 0 = λ x. Plays b x n in
    subst P (sym (take_more moves i d lt)) (plays_more b m n (take i moves) (get_or moves i d) p q)

pub plays_whole : (b n : Built) (moves : List Act) (i : ℕ) → length moves ≤ i → Plays b (take i moves) n → Plays b moves n
plays_whole b n moves i le p = let P : List Act → Type 0 = λ x. Plays b x n in subst P (take_all i moves le) p

put_at : (s : ℕ) (b n : Built) (left : List (ℕ × Value)) → (slot_at b.slots s).left ≡ left → left ≢ []
    → ((p : ℕ × Value) (rest : List (ℕ × Value)) → (slot_at b.slots s).left ≡ p ∷ rest → n ≡ put_one b s p rest)
    → (p : ℕ × Value) × (rest : List (ℕ × Value)) × ((slot_at b.slots s).left ≡ p ∷ rest) × (n ≡ put_one b s p rest)
put_at s b n [] is some does = absurd (some refl)
put_at s b n (p ∷ rest) is some does = (p, rest, is, does p rest is)

-- what a put does
pub put_does : (s : ℕ) (b n : Built) → (slot_at b.slots s).left ≢ []
    → ((p : ℕ × Value) (rest : List (ℕ × Value)) → (slot_at b.slots s).left ≡ p ∷ rest → n ≡ put_one b s p rest)
    → (p : ℕ × Value) × (rest : List (ℕ × Value)) × ((slot_at b.slots s).left ≡ p ∷ rest) × (n ≡ put_one b s p rest)
put_does s b n some does = put_at s b n (slot_at b.slots s).left refl some does

-- what a failure does
pub fail_does : (s : ℕ) (b n : Built) → IsState b.job b.history b.slots → s < length b.job.plan.steps → mark_at b s ≡ Failing
    → ((r : Reason) → (slot_at b.slots s).reason ≡ Some r → n ≡ failed_with b s r)
    → (r : Reason) × ((slot_at b.slots s).reason ≡ Some r) × (n ≡ failed_with b s r)
fail_does s b n st lt failing does = let why = failing_in b s st lt failing in (why.0, why.1, does why.0 why.1)

-- what is played from the opening state
pub played_by : (job : JobView) (moves : List Act) (a b n : Built) → a.job ≡ job → a.history ≡ [] → AreOpen job (length job.plan.steps) a.slots → a.no_memory ≡ false
    → b.job ≡ a.job → Plays a moves b → IsPrefix b.history n.history → GoesInTurn b.job b.history n.history → IsPlayed job moves n.history
played_by job moves a b n of none fresh going same plays before after =
    let T : JobView → Type 0 = λ j. GoesInTurn j b.history n.history in
    record {
      first = a;
      last = b;
      opening = record { of = of; history = none; slots = fresh; no_memory = going };
      plays = plays;
      before = before;
      after = subst T (same ∙ of) after;
    }

-- they keep the job
pub put_job : (s : ℕ) (b n : Built) → (slot_at b.slots s).left ≢ []
    → ((p : ℕ × Value) (rest : List (ℕ × Value)) → (slot_at b.slots s).left ≡ p ∷ rest → n ≡ put_one b s p rest) → n.job ≡ b.job
put_job s b n some does = ap (λ (x : Built). x.job) (put_does s b n some does).3

pub fail_job : (s : ℕ) (b n : Built) → IsState b.job b.history b.slots → s < length b.job.plan.steps → mark_at b s ≡ Failing
    → ((r : Reason) → (slot_at b.slots s).reason ≡ Some r → n ≡ failed_with b s r) → n.job ≡ b.job
fail_job s b n st lt failing does = ap (λ (x : Built). x.job) (fail_does s b n st lt failing does).2
