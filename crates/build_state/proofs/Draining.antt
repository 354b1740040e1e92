-- How the two phases of a drain go on, step by step.
use Rattle.std.proofs.Common.{◌≡◌, ◌≢◌, ℕ, ◌<◌, ◌≤◌, ◌+◌, length, List, [], ◌∷◌, ◌++◌, arith, Bool, true, false, ◌||◌, ◌==◌, cond, refl, sym, ap, ◌∙◌, subst, append_assoc, ◌⊎◌, inl, inr, Option, Some, IfSome}
use mathlib.Core.List.{IsPrefix}
use Rattle.std.proofs.lemmas.Bool.{cases_eq, cases_lt, or_parts}
use Rattle.std.proofs.lemmas.List.{append-nil, length-set, get_or_past, get_or-set_same, get_or-set_other}
use Rattle.chain_builder.specs.Rank.{HasRank}
use Rattle.build_history.specs.declared.event.Event.{Event}
use Rattle.build_history.specs.declared.event.Event.TheVariants.{Start}
use Rattle.build_history.specs.Events.{events_of, has_failed}
use Rattle.build_history.specs.Jobs.{JobView, consumes_at}
use Rattle.build_history.specs.Kinds.{IsFinished, IsLeastFirst}
use Rattle.build_state.specs.declared.mark.Mark.{Mark}
use Rattle.build_state.specs.declared.mark.Mark.TheVariants.{Unneeded, Waiting, Released, Taking, Ready, Putting, Failing, Ended, Failed}
use Rattle.build_state.specs.declared.slot.Slot.{Slot}
use Rattle.build_state.specs.Built.{Built, mark_at, is_halted, mark_after, started}
use Rattle.build_state.specs.Busy.{is_started, is_busy, open_at}
use Rattle.build_state.specs.Marks.{no_slot, slot_at, IsState}
use Rattle.build_state.proofs.Finish.{idle_finished, failed_finished}
use Rattle.build_state.proofs.Rooms.{sum_same}
use Rattle.build_state.proofs.Steps.{failed_more}
use Rattle.build_state.specs.Going.{GoesOn, Drains}
use Rattle.build_state.specs.Turns.{IsOver, IsTurn, GoesInTurn}
use Rattle.build_state.proofs.Going.{open_in, started_on, closed_started, fewer}
use Rattle.build_state.proofs.Standing.{over_in, some_in, may_in, least_in}
use Rattle.build_state.proofs.Turns.{turn_nil, turn_snoc, turn_trans, turn_later, least_nil, least_start, least_later, over_start, own_event}

pub drains_refl : (b : Built) → b.no_memory ≡ false → Drains b b
drains_refl b go = record { job = refl; no_memory = go; history = ([], append-nil b.history); turns = turn_nil b.job b.history }

-- so many events more have come, in turn
drains_more : (a b n : Built) (new : List Event) → Drains a b → n.job ≡ b.job → n.no_memory ≡ b.no_memory → n.history ≡ b.history ++ new → GoesInTurn b.job b.history (b.history ++ new) → Drains a n
drains_more a b n new d job no_memory history turns =
    let T : JobView → Type 0 = λ j. GoesInTurn j b.history (b.history ++ new) in
    record {
      job = job ∙ d.job;
      no_memory = no_memory ∙ d.no_memory;
      history = (d.history.0 ++ new, sym (append_assoc a.history d.history.0 new) ∙ ap (λ l. l ++ new) d.history.1 ∙ sym history);
      turns = subst (GoesInTurn a.job a.history) (sym history) (turn_trans a.job a.history b.history new d.turns (subst T d.job turns));
    }

pub drains_trans : (a b n : Built) → Drains a b → Drains b n → Drains a n
drains_trans a b n p q = drains_more a b n q.history.0 p q.job (q.no_memory ∙ sym p.no_memory) (sym q.history.1) (subst (GoesInTurn b.job b.history) (sym q.history.1) q.turns)

-- after a halt that is taken back the history is as before
pub drained_history : (v b : Built) → v ≡ b → (n : Built) → Drains (record v { no_memory = false }) n → IsPrefix b.history n.history
drained_history v b e n d = subst (λ (x : Built). IsPrefix x.history n.history) e d.history

pub drained_turns : (v b : Built) → v ≡ b → (n : Built) → Drains (record v { no_memory = false }) n → GoesInTurn b.job b.history n.history
drained_turns v b e n d = subst (λ (x : Built). GoesInTurn x.job x.history n.history) e d.turns

-- the events of a step that has started and whose lesser ones are over
run_turns : (s : ℕ) (b n : Built) → IsState b.job b.history b.slots → has_failed b.history ≡ false → s < length b.job.plan.steps → is_started (mark_at b s) ≡ true
    → ((k : ℕ) → k < s → is_started (mark_at b k) ≡ false) → (p : GoesOn s b n) → GoesInTurn b.job b.history (b.history ++ p.new)
run_turns s b n st go lt is lesser p =
    turn_later b.job b.history b.history s p.new (turn_nil b.job b.history) (some_in b.job b.history b.slots st s lt is)
    (λ i il. over_in b.job b.history b.slots st go i (lesser i il)) p.later

-- ending what has started: the lesser steps are done with
pub record IsEnding (a b : Built) (s : ℕ) : Type 0 where
  pub state : IsState b.job b.history b.slots
  pub drains : Drains a b
  pub none : (has_failed b.history ≡ true) ⊎ ((k : ℕ) → k < s → is_started (mark_at b k) ≡ false)
  pub empty : a.history ≡ [] → b.history ≡ []

pub ending_init : (a : Built) → IsState a.job a.history a.slots → a.no_memory ≡ false → IsEnding a a 0
ending_init a st go = record { state = st; drains = drains_refl a go; none = inr (λ k lt. absurd (omega (arith, lt))); empty = λ q. q }

going_none : {P : Type 0} (b : Built) → has_failed b.history ≡ false → (has_failed b.history ≡ true) ⊎ P → P
going_none b go (inl q) = absurd (let z : true ≡ false = sym q ∙ go in cc z)
going_none b go (inr p) = p

-- the step is one of those that the state has
pub ending_in : (a b : Built) (s : ℕ) → IsState a.job a.history a.slots → IsEnding a b s → s < length a.slots → s < length b.slots
ending_in a b s st is lt = omega (arith, st.many, is.state.many, ap (λ (j : JobView). length j.plan.steps) is.drains.job, lt)

-- a started step runs on
pub ending_drains : (a b n : Built) (s : ℕ) → IsEnding a b s → has_failed b.history ≡ false → s < length b.slots → is_started (mark_at b s) ≡ true → GoesOn s b n → Drains a n
ending_drains a b n s is go lt started p =
    drains_more a b n p.new is.drains p.job p.no_memory p.history (run_turns s b n is.state go (omega (arith, lt, is.state.many)) started (going_none b go is.none) p)

-- and with nothing in the history none has started
pub ending_empty : (a b n : Built) (s : ℕ) → IsEnding a b s → s < length b.slots → is_started (mark_at b s) ≡ true → a.history ≡ [] → n.history ≡ []
ending_empty a b n s is lt started q = absurd (some_in b.job b.history b.slots is.state s (omega (arith, lt, is.state.many)) started (ap (events_of s) (is.empty q)))

below_next : (s : ℕ) (b n : Built) → GoesOn s b n → open_at (mark_at n s) ≡ 0 → ((k : ℕ) → k < s → is_started (mark_at b k) ≡ false) → (k : ℕ) → k < s + 1 → is_started (mark_at n k) ≡ false
below_next s b n p closed none k lt = elim (cases_eq k s) [
  | inl q ↦ ap (λ i. is_started (mark_at n i)) q ∙ closed_started (mark_at n s) closed
  | inr ne ↦ started_on s b n p k ne ∙ none k (omega (arith, lt, ne))
]

pub ending_next : (a b n : Built) (s : ℕ) → IsEnding a b s → has_failed b.history ≡ false → s < length b.slots → is_started (mark_at b s) ≡ true → GoesOn s b n → open_at (mark_at n s) ≡ 0
    → IsState n.job n.history n.slots → IsEnding a n (s + 1)
ending_next a b n s is go lt started p closed st = record {
  state = st;
  drains = ending_drains a b n s is go lt started p;
  none = inr (below_next s b n p closed (going_none b go is.none));
  empty = ending_empty a b n s is lt started;
}

skip_next : (b : Built) (s : ℕ) → is_started (mark_at b s) ≡ false → ((k : ℕ) → k < s → is_started (mark_at b k) ≡ false) → (k : ℕ) → k < s + 1 → is_started (mark_at b k) ≡ false
skip_next b s idle none k lt = elim (cases_eq k s) [
  | inl q ↦ ap (λ i. is_started (mark_at b i)) q ∙ idle
  | inr ne ↦ none k (omega (arith, lt, ne))
]

-- a step that hasn't started is passed
pub ending_skip : (a b : Built) (s : ℕ) → IsEnding a b s → has_failed b.history ≡ false → is_started (mark_at b s) ≡ false → IsEnding a b (s + 1)
ending_skip a b s is go idle = record { state = is.state; drains = is.drains; none = inr (skip_next b s idle (going_none b go is.none)); empty = is.empty }

all_none : (b : Built) (s : ℕ) → length b.slots ≤ s → ((k : ℕ) → k < s → is_started (mark_at b k) ≡ false) → (k : ℕ) → is_started (mark_at b k) ≡ false
all_none b s le none k = elim (cases_lt k s) [
  | inl l ↦ none k l
  | inr l ↦ ap (λ (t : Slot). is_started t.mark) (get_or_past b.slots k no_slot (omega (arith, le, l)))
]

-- at the end none is under way
pub ending_done : (a b : Built) (s : ℕ) → IsEnding a b s → length b.slots ≤ s → (has_failed b.history ≡ true) ⊎ ((k : ℕ) → is_started (mark_at b k) ≡ false)
ending_done a b s is le = elim is.none [
  | inl q ↦ inl q
  | inr none ↦ inr (all_none b s le none)
]

-- running what is released, between two steps: none is under way
pub record IsRunning (a b : Built) : Type 0 where
  pub state : IsState b.job b.history b.slots
  pub drains : Drains a b
  pub ranked : HasRank b.job.plan.steps b.job.plan.finals
  pub none : (has_failed b.history ≡ true) ⊎ ((k : ℕ) → is_started (mark_at b k) ≡ false)
  pub least : a.history ≡ [] → IsLeastFirst b.job b.history

pub running_init : (a : Built) → IsState a.job a.history a.slots → HasRank a.job.plan.steps a.job.plan.finals → a.no_memory ≡ false → (has_failed a.history ≡ true) ⊎ ((k : ℕ) → is_started (mark_at a k) ≡ false) → IsRunning a a
running_init a st ranked go none = record { state = st; drains = drains_refl a go; ranked = ranked; none = none; least = λ q. subst (IsLeastFirst a.job) (sym q) (least_nil a.job) }

-- after a claim of the least released step
pub record IsClaimed (b m : Built) (s : ℕ) : Type 0 where
  pub range : s < length b.job.plan.steps
  pub released : mark_at b s ≡ Released
  pub going : is_halted b ≡ false
  pub least : (k : ℕ) → k < s → mark_at b k ≢ Released
  pub is : m ≡ started b s

abbrev IsClaim : Built → Built → ℕ → Type 0
IsClaim b m s = (s < length b.job.plan.steps) × (mark_at b s ≡ Released) × (is_halted b ≡ false) × ((k : ℕ) → k < s → mark_at b k ≢ Released) × (m ≡ started b s)

claimed_is : (b m : Built) (s : ℕ) → IsClaim b m s → IsClaimed b m s
claimed_is b m s w = record { range = w.0; released = w.1; going = w.2; least = w.3; is = w.4 }

pub claimed : (b m : Built) (o : Option ℕ) (s : ℕ) → o ≡ Some s → IfSome o (IsClaim b m) → IsClaimed b m s
claimed b m o s is w = claimed_is b m s (subst (λ (x : Option ℕ). IfSome x (IsClaim b m)) is w)

own_mark : (b m : Built) (s : ℕ) → IsClaimed b m s → length b.slots ≡ length b.job.plan.steps → mark_at m s ≡ mark_after b.job s 0
own_mark b m s c many =
    ap (λ (x : Built). mark_at x s) c.is ∙ ap (λ (t : Slot). t.mark) (get_or-set_same b.slots s (record (slot_at b.slots s) { mark = mark_after b.job s 0 }) no_slot (omega (arith, c.range, many)))

other_mark : (b m : Built) (s i : ℕ) → IsClaimed b m s → i ≢ s → mark_at m i ≡ mark_at b i
other_mark b m s i c ne =
    ap (λ (x : Built). mark_at x i) c.is ∙ ap (λ (t : Slot). t.mark) (get_or-set_other b.slots s i (record (slot_at b.slots s) { mark = mark_after b.job s 0 }) no_slot ne)

started_first : (c : Bool) → is_started (cond c Ready Taking) ≡ true
started_first true = refl
started_first false = refl

open_first : (c : Bool) → open_at (cond c Ready Taking) ≡ 1
open_first true = refl
open_first false = refl

-- it has started
pub claimed_started : (b m : Built) (s : ℕ) → IsState b.job b.history b.slots → IsClaimed b m s → is_started (mark_at m s) ≡ true
claimed_started b m s st c = ap is_started (own_mark b m s c st.many) ∙ started_first (0 == length (consumes_at b.job s))

pub claimed_range : (b m : Built) (s : ℕ) → IsClaimed b m s → s < length m.job.plan.steps
claimed_range b m s c = subst (λ (x : Built). s < length x.job.plan.steps) (sym c.is) c.range

pub claimed_going : (b m : Built) (s : ℕ) → IsClaimed b m s → is_halted m ≡ false
claimed_going b m s c = ap is_halted c.is ∙ ap (λ x. x || b.no_memory) (failed_more b.history (Start s) refl) ∙ c.going

pub not_failed : (b : Built) → is_halted b ≡ false → has_failed b.history ≡ false
not_failed b q = (or_parts (has_failed b.history) b.no_memory q).0

-- the start and what follows it come in turn
claimed_turns : (b m n : Built) (s : ℕ) → IsState b.job b.history b.slots → ((i : ℕ) → IsOver b.history i) → IsClaimed b m s → (p : GoesOn s m n) → GoesInTurn b.job b.history (b.history ++ Start s ∷ p.new)
claimed_turns b m n s st over c p =
    let turn : IsTurn b.job b.history s = inr (over, may_in b.job b.history b.slots st s c.range c.released, least_in b.job b.history b.slots st s c.least) in
    let one : GoesInTurn b.job b.history (b.history ++ Start s ∷ []) = turn_snoc b.job b.history b.history (Start s) (turn_nil b.job b.history) turn in
    subst (GoesInTurn b.job b.history) (append_assoc b.history (Start s ∷ []) p.new)
    (turn_later b.job b.history (b.history ++ Start s ∷ []) s p.new one (own_event b.history (Start s) s refl) (λ i lt. over_start b.history s over i (λ q. absurd (omega (arith, q, lt)))) p.later)

all_over : (a b : Built) → IsRunning a b → has_failed b.history ≡ false → (i : ℕ) → IsOver b.history i
all_over a b is go i = over_in b.job b.history b.slots is.state go i (going_none b go is.none i)

claimed_history : (b m n : Built) (s : ℕ) → IsClaimed b m s → (p : GoesOn s m n) → n.history ≡ b.history ++ Start s ∷ p.new
claimed_history b m n s c p = p.history ∙ ap (λ (x : Built). x.history ++ p.new) c.is ∙ append_assoc b.history (Start s ∷ []) p.new

-- a released step runs whole
pub running_drains : (a b m n : Built) (s : ℕ) → IsRunning a b → IsClaimed b m s → GoesOn s m n → Drains a n
running_drains a b m n s is c p =
    drains_more a b n (Start s ∷ p.new) is.drains (p.job ∙ ap (λ (x : Built). x.job) c.is) (p.no_memory ∙ ap (λ (x : Built). x.no_memory) c.is) (claimed_history b m n s c p)
    (claimed_turns b m n s is.state (all_over a b is (not_failed b c.going)) c p)

none_next : (b m n : Built) (s : ℕ) → IsClaimed b m s → GoesOn s m n → open_at (mark_at n s) ≡ 0 → ((k : ℕ) → is_started (mark_at b k) ≡ false) → (k : ℕ) → is_started (mark_at n k) ≡ false
none_next b m n s c p closed none k = elim (cases_eq k s) [
  | inl q ↦ ap (λ i. is_started (mark_at n i)) q ∙ closed_started (mark_at n s) closed
  | inr ne ↦ started_on s m n p k ne ∙ ap is_started (other_mark b m s k c ne) ∙ none k
]

least_next : (b m n : Built) (s : ℕ) → IsState b.job b.history b.slots → ((i : ℕ) → IsOver b.history i) → IsClaimed b m s → GoesOn s m n → IsLeastFirst b.job b.history → IsLeastFirst n.job n.history
least_next b m n s st over c p lf =
    let one : IsLeastFirst b.job (b.history ++ Start s ∷ []) = least_start b.job b.history s lf over (least_in b.job b.history b.slots st s c.least) in
    let more : IsLeastFirst b.job ((b.history ++ Start s ∷ []) ++ p.new) = least_later b.job (b.history ++ Start s ∷ []) s p.new one (over_start b.history s over) p.later in
    let whole : n.history ≡ (b.history ++ Start s ∷ []) ++ p.new = p.history ∙ ap (λ (x : Built). x.history ++ p.new) c.is in
    let J : JobView → Type 0 = λ j. IsLeastFirst j n.history in
    subst J (sym (p.job ∙ ap (λ (x : Built). x.job) c.is)) (subst (IsLeastFirst b.job) (sym whole) more)

pub running_next : (a b m n : Built) (s : ℕ) → IsRunning a b → IsClaimed b m s → GoesOn s m n → open_at (mark_at n s) ≡ 0 → IsState n.job n.history n.slots → IsRunning a n
running_next a b m n s is c p closed st =
    let go : has_failed b.history ≡ false = not_failed b c.going in
    let R : JobView → Type 0 = λ j. HasRank j.plan.steps j.plan.finals in
    record {
      state = st;
      drains = running_drains a b m n s is c p;
      ranked = subst R (sym (p.job ∙ ap (λ (x : Built). x.job) c.is)) is.ranked;
      none = inr (none_next b m n s c p closed (going_none b go is.none));
      least = λ q. least_next b m n s is.state (all_over a b is go) c p (is.least q);
    }

open_same : (b m : Built) (s i : ℕ) → IsState b.job b.history b.slots → IsClaimed b m s → open_at (mark_at m i) ≡ open_at (mark_at b i)
open_same b m s i st c = elim (cases_eq i s) [
  | inl q ↦ let P : ℕ → Type 0 = λ k. open_at (mark_at m k) ≡ open_at (mark_at b k) in
      subst P (sym q) (ap open_at (own_mark b m s c st.many) ∙ open_first (0 == length (consumes_at b.job s)) ∙ sym (ap open_at c.released))
  | inr ne ↦ ap open_at (other_mark b m s i c ne)
]

-- and one step less is yet to end
pub running_less : (a b m n : Built) (s : ℕ) → IsRunning a b → IsClaimed b m s → GoesOn s m n → open_at (mark_at n s) ≡ 0 → open_in n < open_in b
running_less a b m n s is c p closed =
    let st = is.state in
    let many : length m.slots ≡ length b.slots = ap (λ (x : Built). length x.slots) c.is ∙ length-set b.slots s (record (slot_at b.slots s) { mark = mark_after b.job s 0 }) in
    let same : open_in m ≡ open_in b = sum_same (λ (t : Slot). open_at t.mark) m.slots b.slots many (λ i. open_same b m s i st c) in
    let less : open_in n < open_in m = fewer s m n p closed (omega (arith, many, st.many, c.range)) (ap open_at (own_mark b m s c st.many) ∙ open_first (0 == length (consumes_at b.job s))) in
    omega (arith, same, less)

idle_mark : (m : Mark) → is_started m ≡ false → m ≢ Released → is_busy m ≡ false
idle_mark Unneeded q ne = refl
idle_mark Waiting q ne = refl
idle_mark Released q ne = absurd (ne refl)
idle_mark Taking q ne = cc q
idle_mark Ready q ne = cc q
idle_mark Putting q ne = cc q
idle_mark Failing q ne = cc q
idle_mark Ended q ne = refl
idle_mark Failed q ne = refl

pub halted_failed : (b : Built) → b.no_memory ≡ false → is_halted b ≡ true → has_failed b.history ≡ true
halted_failed b go q = sym (or_none (has_failed b.history)) ∙ ap (λ x. has_failed b.history || x) (sym go) ∙ q where
  or_none : (x : Bool) → (x || false) ≡ x
  or_none true = refl
  or_none false = refl

still_finished : (a b : Built) → IsRunning a b → ((k : ℕ) → k < length b.job.plan.steps → mark_at b k ≢ Released) → (c : Bool) → has_failed b.history ≡ c → IsFinished b.job b.history
still_finished a b is none true q = failed_finished b.job b.history b.slots is.state q
still_finished a b is none false q =
    idle_finished b.job b.history b.slots is.state q (λ s lt. idle_mark (mark_at b s) (going_none b q is.none s) (none s lt)) is.ranked

stopped_finished : (a b : Built) → IsRunning a b → (is_halted b ≡ true) ⊎ ((k : ℕ) → k < length b.job.plan.steps → mark_at b k ≢ Released) → IsFinished b.job b.history
stopped_finished a b is (inl q) = failed_finished b.job b.history b.slots is.state (halted_failed b is.drains.no_memory q)
stopped_finished a b is (inr none) = still_finished a b is none (has_failed b.history) refl

-- where nothing is claimed the run is finished
pub running_done : (a b m : Built) → IsRunning a b → (m ≡ b) × ((is_halted b ≡ true) ⊎ ((k : ℕ) → k < length b.job.plan.steps → mark_at b k ≢ Released)) → IsFinished m.job m.history
running_done a b m is w = subst (λ (x : Built). IsFinished x.job x.history) (sym w.0) (stopped_finished a b is w.1)
