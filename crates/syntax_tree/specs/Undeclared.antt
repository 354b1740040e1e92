-- The number of a name that isn't declared, in a tree whose names aren't checked yet. This project's own.
use Rattle.std.specs.Prelude.{ℕ}

-- the number that stands for a name that isn't there
abbrev pub no_number : ℕ
no_number = 4294967295
