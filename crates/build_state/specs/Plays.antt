-- What a list of moves makes of a build state. This project's own.
use Rattle.std.specs.Prelude.{◌≡◌, ◌≢◌, ℕ, ◌<◌, ◌⊎◌, false, List, [], ◌∷◌, length, Some}
use mathlib.Core.List.{IsPrefix}
use Rattle.item_types.specs.declared.value.Value.{Value}
use Rattle.step_state.specs.declared.outcome.Reason.{Reason}
use Rattle.build_history.specs.declared.event.Event.{Event}
use Rattle.build_history.specs.Jobs.{JobView, meaning_at}
use Rattle.build_state.specs.declared.mark.Mark.TheVariants.{Released, Taking, Ready, Putting, Failing}
use Rattle.build_state.specs.Built.{Built, mark_at, is_halted, started, took, evaluated, put_one, failed_with, HasEnded}
use Rattle.build_state.specs.Marks.{slot_at, IsState}
use Rattle.build_state.specs.Parts.{AreOpen}
use Rattle.build_state.specs.declared.act.Act.{Act}
use Rattle.build_state.specs.declared.act.Act.TheVariants.{Claim, Take, Eval, Put, End, Fail}
use Rattle.build_state.specs.Turns.{GoesInTurn}

-- the step that the move is of
abbrev pub act_step : Act → ℕ
act_step (Claim s) = s
act_step (Take s) = s
act_step (Eval s) = s
act_step (Put s) = s
act_step (End s) = s
act_step (Fail s) = s

-- where the move's step has to stand
abbrev pub Stands : Built → Act → Type 0
Stands b (Claim s) = mark_at b s ≡ Released
Stands b (Take s) = mark_at b s ≡ Taking
Stands b (Eval s) = mark_at b s ≡ Ready
Stands b (Put s) = (mark_at b s ≡ Putting) × ((slot_at b.slots s).left ≢ [])
Stands b (End s) = (mark_at b s ≡ Putting) × ((slot_at b.slots s).left ≡ [])
Stands b (Fail s) = mark_at b s ≡ Failing

-- the condition of the move: its step is one of the job's and stands where it has to, and nothing has halted
abbrev pub Holds : Built → Act → Type 0
Holds b a = (act_step a < length b.job.plan.steps) × (is_halted b ≡ false) × Stands b a

-- what the move does
abbrev pub Does : Built → Act → Built → Type 0
Does b (Claim s) n = n ≡ started b s
Does b (Take s) n = n ≡ took b s
Does b (Eval s) n = n ≡ evaluated b s (meaning_at b.job s (slot_at b.slots s).inputs.lists)
Does b (Put s) n = (p : ℕ × Value) × (rest : List (ℕ × Value)) × ((slot_at b.slots s).left ≡ p ∷ rest) × (n ≡ put_one b s p rest)
Does b (End s) n = (told : List ℕ) × HasEnded b n s told × IsState n.job n.history n.slots
Does b (Fail s) n = (r : Reason) × ((slot_at b.slots s).reason ≡ Some r) × (n ≡ failed_with b s r)

-- a move whose condition doesn't hold is passed over
abbrev pub Acts : Built → Act → Built → Type 0
Acts b a n = (Holds b a × Does b a n) ⊎ ((Holds b a → ⊥) × (n ≡ b))

-- the moves in order
abbrev pub Plays : Built → List Act → Built → Type 0
Plays b [] n = n ≡ b
Plays b (a ∷ rest) n = (m : Built) × Acts b a m × Plays m rest n

-- the state before the first event
pub record IsOpening (job : JobView) (b : Built) : Type 0 where
  pub of : b.job ≡ job
  pub history : b.history ≡ []
  pub slots : AreOpen job (length job.plan.steps) b.slots
  pub no_memory : b.no_memory ≡ false

-- the history of the moves, from the opening state, and what follows it in turn
pub record IsPlayed (job : JobView) (moves : List Act) (h : List Event) : Type 0 where
  pub first : Built
  pub last : Built
  pub opening : IsOpening job first
  pub plays : Plays first moves last
  pub before : IsPrefix last.history h
  pub after : GoesInTurn job last.history h
