-- From the command that the words name to the words.
use Rattle.std.proofs.Common.{◌≡◌, refl, sym, subst, ℕ, ◌⊎◌, inl, inr, List, Option, Some, None, Result, Ok, Err, arith}
use Rattle.std.specs.Option.{ok_or}
use Rattle.aug_base.specs.Files.{Files}
use Rattle.aug_base.specs.Shelves.{Shelved}
use Rattle.aug_base.specs.Sinks.{Taken}
use Rattle.command_words.specs.declared.command.Command.{Command}
use Rattle.command_words.specs.declared.command.Command.TheVariants.{Plan, Build, Dump}
use Rattle.command_words.specs.declared.command.WordsErr.{WordsErr}
use Rattle.command_words.specs.declared.command.WordsErr.TheVariants.{Refused, Memory}
use Rattle.command_words.specs.Words.{command_of}
use Rattle.quarkus_cli.specs.Outcomes.{CommandOutcome, FirstPart, Told, OutcomeBy, FirstPartBy, nothing, refused}
use Rattle.quarkus_cli.specs.Answers.{Outside, outside, Later, Answers, AnswersCommand, AnswersWords}
use Rattle.quarkus_cli.specs.Ends.{Delivers}
use Rattle.quarkus_cli.proofs.Ends.{no_memory, delivered_at, nothing_done, not_begun}

abbrev pub ReadWords : List (List ℕ) → Result Command WordsErr → Type 0
ReadWords said result = (result ≡ Err Memory) ⊎ (result ≡ ok_or (command_of said) Refused)

command_by : (o : Option Command) (command : Command)
    → (◌≡◌ {A = Result Command WordsErr} (Ok command) (Err Memory)) ⊎ (◌≡◌ {A = Result Command WordsErr} (Ok command) (ok_or o Refused)) → o ≡ Some command
command_by None command cause = absurd (elim cause [ inl e ↦ cc | inr e ↦ cc ])
command_by (Some k) command cause = elim cause [ inl e ↦ absurd (cc) | inr e ↦ cc ]

none_by : (o : Option Command) (fault : WordsErr)
    → (◌≡◌ {A = Result Command WordsErr} (Err fault) (Err Memory)) ⊎ (◌≡◌ {A = Result Command WordsErr} (Err fault) (ok_or o Refused)) → fault ≡ Refused → o ≡ None
none_by None fault cause is = refl
none_by (Some k) fault cause is = absurd (elim cause [ inl e ↦ cc | inr e ↦ cc ])

pub dispatched : (said : List (List ℕ)) (command : Command) (before now : Outside) (status : ℕ) → ReadWords said (Ok command)
    → AnswersCommand command before now status → AnswersWords said before now status
dispatched said command before now status cause a =
    subst (λ o. Answers (OutcomeBy o before.shelf.files) (FirstPartBy o before.shelf.files) before now status) (sym (command_by (command_of said) command cause)) a

first_nothing : (command : Command) (files : Option Files) → FirstPart command files nothing
first_nothing (Plan file) files = refl
first_nothing (Build file out workers) files = refl
first_nothing (Dump file) files = refl

same_counts : (shelf : Shelved) (sink : Taken) → Later (outside shelf sink) (outside shelf sink)
same_counts shelf sink = record { reads = omega arith; writes = omega arith; puts = omega arith }

memory_by : (o : Option Command) (shelf : Shelved) (sink : Taken)
    → Answers (OutcomeBy o shelf.files) (FirstPartBy o shelf.files) (outside shelf sink) (outside shelf sink) 8
memory_by None shelf sink =
    no_memory (OutcomeBy None shelf.files) (FirstPartBy None shelf.files) _ _ (same_counts shelf sink) (inr (refused, refl, not_begun refused shelf sink))
memory_by (Some command) shelf sink =
    no_memory (Told (CommandOutcome command) shelf.files) (FirstPart command shelf.files) _ _ (same_counts shelf sink)
    (inl (nothing, first_nothing command shelf.files, nothing_done shelf shelf sink refl))

pub words_memory : (said : List (List ℕ)) (shelf : Shelved) (sink : Taken) → AnswersWords said (outside shelf sink) (outside shelf sink) 8
words_memory said shelf sink = memory_by (command_of said) shelf sink

pub words_refused : (said : List (List ℕ)) (fault : WordsErr) (before now : Outside) (status : ℕ) → ReadWords said (Err fault) → fault ≡ Refused
    → Delivers refused before now status → AnswersWords said before now status
words_refused said fault before now status cause is delivers =
    let e : command_of said ≡ None = none_by (command_of said) fault cause is in
    subst (λ o. Answers (OutcomeBy o before.shelf.files) (FirstPartBy o before.shelf.files) before now status) (sym e)
    (delivered_at (OutcomeBy None before.shelf.files) (FirstPartBy None before.shelf.files) refused before now status refl (inl (omega arith)) delivers)
