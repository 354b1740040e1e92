-- The commands that the words after the program's name spell. This project's own.
use Rattle.std.specs.Prelude.{ℕ, ◌≤◌, false, List, [], ◌∷◌, codes, bytes_eq, Option, Some, None, option_map, if◌then◌else◌}
use Rattle.std.specs.Option.{option_and_then}
use Rattle.command_words.specs.declared.arguments.Arguments.{Arguments}
use Rattle.command_words.specs.declared.command.Command.{Command}
use Rattle.command_words.specs.declared.command.Command.TheVariants.{Plan, Build, Dump}
use Rattle.command_words.specs.Arguments.{arguments}
use Rattle.command_words.specs.Numbers.{number_to}

-- how many workers the option asks for: 1 where it is left out, 1 to 64 where it comes once
abbrev pub workers_of : List (List ℕ) → Option ℕ
workers_of [] = Some 1
workers_of (value ∷ []) = number_to 64 value
workers_of (value ∷ other ∷ more) = None

-- the commands of one operand
abbrev pub command_of_one : List ℕ → List ℕ → Option Command
command_of_one word file = if bytes_eq word (codes "plan") then Some (Plan file) else if bytes_eq word (codes "dump") then Some (Dump file) else None

-- the command of two operands and the option
abbrev pub command_of_two : List ℕ → List ℕ → List ℕ → Option ℕ → Option Command
command_of_two word file out workers = if bytes_eq word (codes "build") then option_map (Build file out) workers else None

-- one line for each number of operands
abbrev pub command_named : List ℕ → List (List ℕ) → List (List ℕ) → Option Command
command_named word (file ∷ []) [] = command_of_one word file
command_named word (file ∷ out ∷ []) values = command_of_two word file out (workers_of values)
command_named word operands values = None

-- the first word is the command
abbrev pub command_of : List (List ℕ) → Option Command
command_of [] = None
command_of (word ∷ words) = option_and_then (λ (a : Arguments). command_named word a.operands a.workers) (arguments false words)

-- a build by 1 to 64 workers
abbrev pub HasWorkers : Command → Type 0
HasWorkers (Plan file) = Unit {0}
HasWorkers (Build file out workers) = (1 ≤ workers) × (workers ≤ 64)
HasWorkers (Dump file) = Unit {0}
