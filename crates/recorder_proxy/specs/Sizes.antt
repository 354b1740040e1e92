-- How large what a step records is. This project's own.
use Rattle.std.specs.Prelude.{ℕ, ◌+◌, List, sum_by}
use Rattle.item_types.specs.Measure.{cells, text_len}
use Rattle.recorder_proxy.specs.declared.call.Call.{Call}

-- a call counts 1, plus the cells of its arguments
abbrev pub cells_of : List Call → ℕ
cells_of calls = sum_by (λ c. 1 + sum_by cells c.args) calls

-- the text of all arguments, in modified UTF-8
abbrev pub text_of : List Call → ℕ
text_of calls = sum_by (λ c. sum_by text_len c.args) calls
