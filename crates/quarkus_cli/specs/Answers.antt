-- What a status says of the shelf and the sink, for the outcomes that the words and the files allow. This project's own.
use Rattle.std.specs.Prelude.{◌≡◌, ◌≢◌, ℕ, ◌≤◌, ◌⊎◌, List, ◌∷◌, ◌++◌, Option, option_map, IsSome}
use Rattle.aug_base.specs.Causes.{Rose}
use Rattle.aug_base.specs.Files.{Files, File, with_file, with_files, Begins}
use Rattle.aug_base.specs.Shelves.{Shelved}
use Rattle.aug_base.specs.Sinks.{Taken, Grows, GrowsBySome}
use Rattle.command_words.specs.declared.command.Command.{Command}
use Rattle.quarkus_cli.specs.declared.outcome.Outcome.{Outcome}
use Rattle.quarkus_cli.specs.Outcomes.{CommandOutcome, FirstPart, Told, WordsOutcome, WordsFirstPart}

-- the shelf and the sink, at one moment
pub record Outside : Type 0 where
  pub shelf : Shelved
  pub sink : Taken

abbrev pub outside : Shelved → Taken → Outside
outside shelf sink = record { shelf = shelf; sink = sink }

-- no count of faults rose
pub record Quiet (before now : Outside) : Type 0 where
  pub reads : now.shelf.read_faults ≡ before.shelf.read_faults
  pub writes : now.shelf.write_faults ≡ before.shelf.write_faults
  pub puts : now.sink.faults ≡ before.sink.faults

-- no count of faults fell
pub record Later (before now : Outside) : Type 0 where
  pub reads : before.shelf.read_faults ≤ now.shelf.read_faults
  pub writes : before.shelf.write_faults ≤ now.shelf.write_faults
  pub puts : before.sink.faults ≤ now.sink.faults

-- the outcome's files are written and its text is put
pub record Done (o : Outcome) (before now : Outside) : Type 0 where
  pub files : now.shelf.files ≡ option_map (with_files o.files) before.shelf.files
  pub text : Grows o.text before.sink.bytes now.sink.bytes

-- the first of these files are written, and maybe a prefix of the next
abbrev pub WrittenInPart : List File → Option Files → Option Files → Type 0
WrittenInPart files before now =
    (first : List File) × (rest : List File) × (files ≡ first ++ rest)
    × ((now ≡ option_map (with_files first) before)
    ⊎ ((next : File) × (more : List File) × (front : List ℕ) × (rest ≡ next ∷ more) × Begins front next.1
    × (now ≡ option_map (λ m. with_file (next.0, front) (with_files first m)) before)))

-- some of the outcome's files are written, and nothing is put
pub record FilesInPart (o : Outcome) (before now : Outside) : Type 0 where
  pub files : WrittenInPart o.files before.shelf.files now.shelf.files
  pub text : now.sink.bytes ≡ before.sink.bytes

-- each write succeeded, so all of the outcome's files are written, and some of its text is put
pub record TextInPart (o : Outcome) (before now : Outside) : Type 0 where
  pub writes : now.shelf.write_faults ≡ before.shelf.write_faults
  pub files : now.shelf.files ≡ option_map (with_files o.files) before.shelf.files
  pub text : GrowsBySome o.text before.sink.bytes now.sink.bytes

-- a first part of the outcome is done: the text is put last
abbrev pub DoneInPart : Outcome → Outside → Outside → Type 0
DoneInPart o before now = FilesInPart o before now ⊎ TextInPart o before now

-- the statuses of a command that came to its end
abbrev pub IsFinal : ℕ → Type 0
IsFinal status = (status ≤ 5) ⊎ ((9 ≤ status) × (status ≤ 11))

-- The answer of a call whose outcomes are those of which `Allows` holds, and which a read stops after one of `Stops`.
pub record Answers (Allows Stops : Outcome → Type 0) (before now : Outside) (status : ℕ) : Type 0 where
  pub known : status ≤ 11
  pub later : Later before now
  -- nothing failed, and one of the outcomes is done
  pub quiet : IsFinal status → Quiet before now
  pub done : IsFinal status → (o : Outcome) × Allows o × (o.status ≡ status) × Done o before now
  -- a name that is read isn't on a shelf that tells its map, or a read failed
  pub missing : status ≡ 6 → (IsSome before.shelf.files × ((o : Outcome) × Allows o × (o.status ≡ 6))) ⊎ Rose before.shelf.read_faults now.shelf.read_faults
  pub missing_leaves : status ≡ 6 → (o : Outcome) × Stops o × Done o before now
  -- a write or a put failed, of an outcome for which every name that is read was there
  pub failed : status ≡ 7 → Rose before.shelf.write_faults now.shelf.write_faults ⊎ Rose before.sink.faults now.sink.faults
  pub failed_leaves : status ≡ 7 → (o : Outcome) × Allows o × (o.status ≢ 6) × DoneInPart o before now
  -- memory ran out, before the outcome was known or when it was written and put
  pub spent_leaves : status ≡ 8 → ((o : Outcome) × Stops o × Done o before now) ⊎ ((o : Outcome) × Allows o × DoneInPart o before now)

-- the answer of a command
abbrev pub AnswersCommand : Command → Outside → Outside → ℕ → Type 0
AnswersCommand command before now status = Answers (Told (CommandOutcome command) before.shelf.files) (FirstPart command before.shelf.files) before now status

-- the answer of a command line
abbrev pub AnswersWords : List (List ℕ) → Outside → Outside → ℕ → Type 0
AnswersWords words before now status = Answers (WordsOutcome words before.shelf.files) (WordsFirstPart words before.shelf.files) before now status
