-- Which steps can move, and which have started. This project's own.
use Rattle.std.specs.Prelude.{ℕ, Bool, true, false}
use Rattle.build_state.specs.declared.mark.Mark.{Mark}
use Rattle.build_state.specs.declared.mark.Mark.TheVariants.{Unneeded, Waiting, Released, Taking, Ready, Putting, Failing, Ended, Failed}

-- a step that has started and neither ended nor failed
abbrev pub is_started : Mark → Bool
is_started Unneeded = false
is_started Waiting = false
is_started Released = false
is_started Taking = true
is_started Ready = true
is_started Putting = true
is_started Failing = true
is_started Ended = false
is_started Failed = false

-- a step that can move
abbrev pub is_busy : Mark → Bool
is_busy Unneeded = false
is_busy Waiting = false
is_busy Released = true
is_busy Taking = true
is_busy Ready = true
is_busy Putting = true
is_busy Failing = true
is_busy Ended = false
is_busy Failed = false

-- 1 where the step is yet to end
abbrev pub open_at : Mark → ℕ
open_at Unneeded = 0
open_at Waiting = 1
open_at Released = 1
open_at Taking = 1
open_at Ready = 1
open_at Putting = 1
open_at Failing = 1
open_at Ended = 0
open_at Failed = 0
