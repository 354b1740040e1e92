-- Tests of names one behind the other: the first that fails is the answer. This project's own.
use Rattle.std.specs.Prelude.{ℕ, ◌+◌, ◌-◌, Bool, true, false, if◌then◌else◌, nat_lt, Result, Ok, Err}
use Rattle.lang_names.specs.declared.wrong.Wrong.{Wrong}
use Rattle.lang_names.specs.declared.wrong.Wrong.TheVariants.{Unknown, Undeclared}

abbrev pub Checked : Type 0
Checked = Result (Unit {0}) Wrong

abbrev pub right : Checked
right = Ok tt

-- the number of a later token; no text has a token behind the last number
abbrev pub later : ℕ → ℕ → ℕ
later at by = if nat_lt (4294967295 - by) at then 4294967295 else at + by

abbrev pub known : Bool → ℕ → Checked
known true at = right
known false at = Err (Unknown at)

abbrev pub fitting : Bool → ℕ → Checked
fitting true at = right
fitting false at = Err (Undeclared at)

-- one test, and then another
abbrev pub and_also : Checked → Checked → Checked
and_also (Ok x) c = c
and_also (Err w) c = Err w
