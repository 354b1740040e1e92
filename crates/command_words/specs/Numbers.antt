-- Numbers as words spell them: in decimal digits, without a sign or a leading zero. This project's own.
use Rattle.std.specs.Prelude.{ℕ, zero, suc, List, bytes_eq, Option, Some, None, if◌then◌else◌}
use Rattle.std.specs.Fmt.{decimal}

-- the number from 1 to the limit whose decimal digits the word is
unfoldable pub number_to : ℕ → List ℕ → Option ℕ
number_to zero word = None
number_to (suc n) word = if bytes_eq word (decimal (suc n)) then Some (suc n) else number_to n word
