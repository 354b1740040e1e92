-- What the words after the command are: operands, and values of the option `--workers`. This project's own.
use Rattle.std.specs.Prelude.{◌≡◌, ℕ, nat_eq, Bool, true, false, List, [], ◌∷◌, ◌++◌, take, drop, codes, bytes_eq, Option, Some, None, option_map, if◌then◌else◌}
use Rattle.command_words.specs.declared.arguments.Arguments.{Arguments}

-- a word that begins with `-` and is longer than one character
abbrev pub is_option : List ℕ → Bool
is_option [] = false
is_option (c ∷ []) = false
is_option (c ∷ d ∷ more) = nat_eq c 45

-- a word that is an operand wherever it stands, but right after `--workers`
abbrev pub IsPlainWord : List ℕ → Type 0
IsPlainWord word = is_option word ≡ false

abbrev pub is_end : List ℕ → Bool
is_end word = bytes_eq word (codes "--")

abbrev pub is_workers : List ℕ → Bool
is_workers word = bytes_eq word (codes "--workers")

-- the value in a word `--workers=VALUE`
abbrev pub joined_value : List ℕ → Option (List ℕ)
joined_value word = if bytes_eq (take 10 word) (codes "--workers=") then Some (drop 10 word) else None

abbrev pub operands : List (List ℕ) → Arguments
operands words = record { operands = words; workers = [] }

abbrev pub values : List (List ℕ) → Arguments
values words = record { operands = []; workers = words }

-- the arguments of words and then those of others
abbrev pub and_then : Arguments → Arguments → Arguments
and_then a b = record { operands = a.operands ++ b.operands; workers = a.workers ++ b.workers }

-- a word that stands for itself: it gives its value, or is an operand, or is an option that nobody knows
abbrev pub single : List ℕ → Option (List ℕ) → Option Arguments
single word (Some value) = Some (values (value ∷ []))
single word None = if is_option word then None else Some (operands (word ∷ []))

-- a word that is the option's value, which `--` can't be
abbrev pub as_value : List ℕ → Option Arguments
as_value word = if is_end word then None else Some (values (word ∷ []))

abbrev pub and_rest : Option Arguments → Option Arguments → Option Arguments
and_rest None rest = None
and_rest (Some first) rest = option_map (and_then first) rest

-- Word by word; the flag says that the word before was `--workers`, whose value the next one is. After a word `--`, which is no value, each word is an operand.
abbrev pub arguments : Bool → List (List ℕ) → Option Arguments
arguments false [] = Some (operands [])
arguments true [] = None
arguments true (word ∷ words) = and_rest (as_value word) (arguments false words)
arguments false (word ∷ words) =
    if is_end word then Some (operands words) else if is_workers word then arguments true words else and_rest (single word (joined_value word)) (arguments false words)
