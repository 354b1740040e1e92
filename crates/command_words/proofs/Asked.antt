-- How many workers a command asks for.
use Rattle.std.proofs.Common.{◌≡◌, ℕ, ◌≤◌, ◌⊎◌, inl, inr, false, List, [], ◌∷◌, length, map, drop, Option, Some, None, Result, Ok, Err, arith}
use Rattle.std.specs.Option.{ok_or, option_and_then}
use Rattle.command_words.specs.declared.arguments.Arguments.{Arguments}
use Rattle.command_words.specs.declared.command.Command.{Command}
use Rattle.command_words.specs.declared.command.WordsErr.{WordsErr}
use Rattle.command_words.specs.declared.command.WordsErr.TheVariants.{Refused, Memory}
use Rattle.command_words.specs.Arguments.{arguments}
use Rattle.command_words.specs.Words.{command_named, command_of, workers_of}
use Rattle.command_words.proofs.Numbers.{spells}

pub one_to_64 : (values : List (List ℕ)) (n : ℕ) → workers_of values ≡ Some n → (1 ≤ n) × (n ≤ 64)
one_to_64 [] n is = let e : n ≡ 1 = cc in (omega (arith, e), omega (arith, e))
one_to_64 (value ∷ []) n is = let s = spells 64 n value is in (s.0, s.1)
one_to_64 (value ∷ other ∷ more) n is = absurd (cc)

asked_by : (o : Option ℕ) (n : ℕ) → (◌≡◌ {A = Result ℕ WordsErr} (Ok n) (Err Memory)) ⊎ (◌≡◌ {A = Result ℕ WordsErr} (Ok n) (ok_or o Refused)) → o ≡ Some n
asked_by None n cause = absurd (elim cause [ inl e ↦ cc | inr e ↦ cc ])
asked_by (Some m) n cause = elim cause [ inl e ↦ absurd (cc) | inr e ↦ cc ]

pub asked : (values : List (List ℕ)) (n : ℕ) → (◌≡◌ {A = Result ℕ WordsErr} (Ok n) (Err Memory)) ⊎ (◌≡◌ {A = Result ℕ WordsErr} (Ok n) (ok_or (workers_of values) Refused))
    → (1 ≤ n) × (n ≤ 64)
asked values n cause = one_to_64 values n (asked_by (workers_of values) n cause)

unread_by : (word : List ℕ) (o : Option Arguments) (fault : WordsErr)
    → (◌≡◌ {A = Result Arguments WordsErr} (Err fault) (Err Memory)) ⊎ (◌≡◌ {A = Result Arguments WordsErr} (Err fault) (ok_or o Refused))
    → (◌≡◌ {A = Result Command WordsErr} (Err fault) (Err Memory))
    ⊎ (◌≡◌ {A = Result Command WordsErr} (Err fault) (ok_or (option_and_then (λ (a : Arguments). command_named word a.operands a.workers) o) Refused))
unread_by word None fault cause = elim cause [ inl e ↦ inl (cc) | inr e ↦ inr (cc) ]
unread_by word (Some a) fault cause = elim cause [ inl e ↦ inl (cc) | inr e ↦ absurd (cc) ]

-- words after the command that are refused, or want of memory
pub unread : {A : Type 0} (f : A → List ℕ) (words : List A) (fault : WordsErr) → 1 ≤ length words
    → (◌≡◌ {A = Result Arguments WordsErr} (Err fault) (Err Memory)) ⊎ (◌≡◌ {A = Result Arguments WordsErr} (Err fault) (ok_or (arguments false (map f (drop 1 words))) Refused))
    → (◌≡◌ {A = Result Command WordsErr} (Err fault) (Err Memory)) ⊎ (◌≡◌ {A = Result Command WordsErr} (Err fault) (ok_or (command_of (map f words)) Refused))
unread f [] fault within cause = absurd (omega (arith, within))
unread f (word ∷ words) fault within cause = unread_by (f word) (arguments false (map f words)) fault cause
