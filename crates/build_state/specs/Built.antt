-- A build state as its callers see it, and what each call makes of it. This project's own.
use Rattle.std.specs.Prelude.{◌≡◌, ℕ, ◌+◌, ◌<◌, ◌==◌, ◌||◌, Bool, cond, List, [], ◌∷◌, ◌++◌, length, slice_set, Contains, Some, None}
use Rattle.item_types.specs.declared.value.Value.{Value}
use Rattle.step_state.specs.declared.outcome.Outcome.{Outcome}
use Rattle.step_state.specs.declared.outcome.Outcome.TheVariants.{Done, Fails}
use Rattle.step_state.specs.declared.outcome.Reason.{Reason}
use Rattle.build_history.specs.declared.event.Event.{Event}
use Rattle.build_history.specs.declared.event.Event.TheVariants as event
use Rattle.build_history.specs.Events.{has_failed}
use Rattle.build_history.specs.Jobs.{JobView, decl_at, body_at, consumes_at}
use Rattle.build_history.specs.Next.{item_at}
use Rattle.build_history.specs.Runs.{found_in}
use Rattle.build_history.specs.Scripts.{kept}
use Rattle.build_history.specs.Works.{Worked}
use Rattle.build_state.specs.declared.mark.Mark.{Mark}
use Rattle.build_state.specs.declared.mark.Mark.TheVariants.{Released, Taking, Ready, Putting, Failing, Ended, Failed}
use Rattle.build_state.specs.declared.slot.Slot.{Slot}
use Rattle.build_state.specs.Marks.{slot_at}

pub record Built : Type 0 where
  pub job : JobView
  pub history : List Event
  pub slots : List Slot
  pub no_memory : Bool

abbrev pub mark_at : Built → ℕ → Mark
mark_at b s = (slot_at b.slots s).mark

-- a step has failed, or memory was wanting
abbrev pub is_halted : Built → Bool
is_halted b = has_failed b.history || b.no_memory

-- after an event of the step, whose slot becomes this
abbrev pub moved : Built → Event → ℕ → Slot → Built
moved b e s t = record b { history = b.history ++ e ∷ []; slots = slice_set b.slots s t }

-- where a step stands that has done so many takes
abbrev pub mark_after : JobView → ℕ → ℕ → Mark
mark_after job s k = cond (k == length (consumes_at job s)) Ready Taking

-- after the start of the step
abbrev pub started : Built → ℕ → Built
started b s = moved b (event.Start s) s (record (slot_at b.slots s) { mark = mark_after b.job s 0 })

-- the item of the step's next take
abbrev pub next_item : Built → ℕ → ℕ
next_item b s = item_at b.job s (length (slot_at b.slots s).inputs.lists)

-- what the step's next take carries
abbrev pub next_values : Built → ℕ → List Value
next_values b s = found_in b.job (next_item b s) b.history

abbrev pub with_take : Built → ℕ → Slot
with_take b s = record (slot_at b.slots s) {
  mark = mark_after b.job s (length (slot_at b.slots s).inputs.lists + 1);
  inputs = record { lists = (slot_at b.slots s).inputs.lists ++ next_values b s ∷ [] };
}

-- after the next take of the step
abbrev pub took : Built → ℕ → Built
took b s = moved b (event.Take s (next_item b s) (next_values b s)) s (with_take b s)

-- a slot that keeps an outcome
abbrev pub settled : JobView → ℕ → Slot → Outcome → Slot
settled job s t (Done puts calls) = record t { mark = Putting; made = 0; left = kept job s puts; calls = calls }
settled job s t (Fails r) = record t { mark = Failing; reason = Some r }

-- after the outcome of the step is kept
abbrev pub evaluated : Built → ℕ → Outcome → Built
evaluated b s o = record b { slots = slice_set b.slots s (settled b.job s (slot_at b.slots s) o) }

-- the work is on equal names, an equal declaration, an equal body and equal inputs
abbrev pub Fits : Built → Worked → Type 0
Fits b w = (w.job.names ≡ b.job.names) × (decl_at w.job w.step ≡ decl_at b.job w.step) × (body_at w.job w.step ≡ body_at b.job w.step) × (w.inputs ≡ (slot_at b.slots w.step).inputs)

-- after the next put of the step, p, with these left
abbrev pub put_one : Built → ℕ → ℕ × Value → List (ℕ × Value) → Built
put_one b s p rest = moved b (event.Put s p.0 p.1) s (record (slot_at b.slots s) { made = (slot_at b.slots s).made + 1; left = rest })

-- after the failure of the step
abbrev pub failed_with : Built → ℕ → Reason → Built
failed_with b s r = moved b (event.Fail s r) s (record (slot_at b.slots s) { mark = Failed; reason = None })

-- a slot after the end of the step, which released these steps
abbrev pub after_end : ℕ → List ℕ → ℕ → Slot → Slot → Type 0
after_end s told i old new = (i ≡ s → new ≡ record old { mark = Ended; calls = [] }) × ((i ≡ s → ⊥) → Contains told i → new ≡ record old { mark = Released }) × ((i ≡ s → ⊥) → (Contains told i → ⊥) → new ≡ old)

-- after the end of the step, which released these steps
pub record HasEnded (b n : Built) (s : ℕ) (told : List ℕ) : Type 0 where
  pub job : n.job ≡ b.job
  pub history : n.history ≡ b.history ++ event.End s (slot_at b.slots s).calls ∷ []
  pub many : length n.slots ≡ length b.slots
  pub slots : (i : ℕ) → i < length b.slots → after_end s told i (slot_at b.slots i) (slot_at n.slots i)
  pub no_memory : n.no_memory ≡ b.no_memory
