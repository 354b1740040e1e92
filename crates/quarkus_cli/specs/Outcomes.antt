-- Outcome of a command, where nothing outside fails: the status, the text and the files that it writes, as a relation of the words and the files on the shelf. This project's own.
use Rattle.std.specs.Prelude.{◌≡◌, ◌≢◌, ◌⊎◌, ℕ, ◌<◌, ◌≤◌, List, [], ◌++◌, length, codes, Option, Some, None, IfSome, Result, Ok, Err}
use Rattle.aug_base.specs.Files.{Files}
use Rattle.chain_builder.specs.Accepted.{IsAccepted}
use Rattle.chain_builder.specs.Fault.{IsFault}
use Rattle.chain_builder.specs.FaultText.{fault_text}
use Rattle.chain_builder.specs.declared.fault.ChainFault.{ChainFault}
use Rattle.chain_builder.specs.declared.fault.ChainFault.TheVariants.{Memory}
use Rattle.class_dump.specs.Dump.{dump_text}
use Rattle.class_grammar.specs.Grammar.{Spells, IsStuck}
use Rattle.class_pool.specs.declared.class.Class.{Class}
use Rattle.class_pool.specs.declared.fault.ClassFault.{ClassFault}
use Rattle.class_grammar.specs.FaultText as class_fault
use Rattle.ext_parser.specs.ProjectOfTheBytes.{project}
use Rattle.ext_parser.specs.declared.fault.ProjectFault.{ProjectFault}
use Rattle.ext_parser.specs.declared.project.Project.{Project}
use Rattle.build_report.specs.PlanText.{IsPlanText}
use Rattle.build_report.specs.ProjectFaultText.{project_fault_text}
use Rattle.command_words.specs.declared.command.Command.{Command}
use Rattle.command_words.specs.declared.command.Command.TheVariants.{Plan, Build, Dump}
use Rattle.quarkus_cli.specs.declared.outcome.Outcome.{Outcome}
use Rattle.command_words.specs.Words.{command_of}
use Rattle.quarkus_cli.specs.Builds.{OfBuild}
use Rattle.quarkus_cli.specs.Usage.{usage}

-- a status and a text, and no file written
abbrev pub said : ℕ → List ℕ → Outcome
said status text = record { status = status; text = text; files = [] }

abbrev pub nothing : Outcome
nothing = said 0 []

abbrev pub refused : Outcome
refused = said 1 usage

abbrev pub no_project : ProjectFault → Outcome
no_project fault = said 2 (codes "project refused: " ++ project_fault_text fault ++ codes "\n")

abbrev pub no_chain : Project → ChainFault → Outcome
no_chain p fault = said 3 (codes "chain refused: " ++ fault_text p.steps p.names.items fault ++ codes "\n")

-- a file of that name is no class file
abbrev pub no_class : List ℕ → List ℕ → Outcome
no_class name fault = said 9 (codes "classes refused: " ++ (name ++ codes ": " ++ fault) ++ codes "\n")

-- a name that is read isn't on the shelf
abbrev pub absent : Outcome
absent = said 6 []

abbrev pub IsAcceptedProject : Project → Type 0
IsAcceptedProject p = IsAccepted p.steps p.names.items p.finals

-- what `Then` says of the project where its chain is accepted; else the chain's fault
abbrev pub OfChain : (Project → Outcome → Type 0) → Project → Outcome → Type 0
OfChain Then p o =
    (IsAcceptedProject p × Then p o)
    ⊎ ((fault : ChainFault) × (fault ≡ Memory → ⊥) × IsFault p.steps p.names.items p.finals fault × (o ≡ no_chain p fault))

abbrev pub OfRead : (Project → Outcome → Type 0) → Result Project ProjectFault → Outcome → Type 0
OfRead Then (Ok p) o = Then p o
OfRead Then (Err fault) o = o ≡ no_project fault

-- what `Then` says of the project that a file holds; else that the file isn't there, or is no project
abbrev pub OfFile : (Project → Outcome → Type 0) → Option (List ℕ) → Outcome → Type 0
OfFile Then None o = o ≡ absent
OfFile Then (Some bytes) o = OfRead Then (project bytes) o

abbrev pub OfPlan : Project → Outcome → Type 0
OfPlan p o = (text : List ℕ) × IsPlanText p.app p.steps p.finals text × (o ≡ said 0 text)

-- the dump of the class that a file's bytes spell; else where they go wrong first
abbrev pub OfClass : List ℕ → List ℕ → Outcome → Type 0
OfClass name bytes o =
    ((c : Class) × Spells bytes c × (o ≡ said 0 (dump_text c)))
    ⊎ ((fault : ClassFault) × IsStuck bytes fault × (o ≡ no_class name (class_fault.fault_text fault)))

-- what `Then` says of the bytes where they are at most so many; else `large`
abbrev pub OfSize : ℕ → (List ℕ → Outcome → Type 0) → Outcome → List ℕ → Outcome → Type 0
OfSize limit Then large bytes o = ((limit < length bytes) × (o ≡ large)) ⊎ ((length bytes ≤ limit) × Then bytes o)

-- what comes of the bytes of a class file of that name, which has at most 2,000,000
abbrev pub OfClassFile : List ℕ → List ℕ → Outcome → Type 0
OfClassFile name bytes o = OfSize 2_000_000 (OfClass name) (no_class name (codes "too large")) bytes o

abbrev pub OfDump : List ℕ → Option (List ℕ) → Outcome → Type 0
OfDump name None o = o ≡ absent
OfDump name (Some bytes) o = OfClassFile name bytes o

-- the outcomes of a command over these files: one line for each command
abbrev pub CommandOutcome : Command → Files → Outcome → Type 0
CommandOutcome (Plan file) m o = OfFile (OfChain OfPlan) (m file) o
CommandOutcome (Build file out workers) m o = OfFile (OfChain (OfBuild out workers)) (m file) o
CommandOutcome (Dump file) m o = OfDump file (m file) o

-- what is done where a read stops the command, whether its shelf tells its files or not: one line for each command
abbrev pub FirstPart : Command → Option Files → Outcome → Type 0
FirstPart (Plan file) files o = o ≡ nothing
FirstPart (Build file out workers) files o = o ≡ nothing
FirstPart (Dump file) files o = o ≡ nothing

-- a relation to the files, over what a shelf tells; of files that aren't told nothing is said
abbrev pub Told : (Files → Outcome → Type 0) → Option Files → Outcome → Type 0
Told Allows files o = (o.status ≢ 1) × IfSome files (λ m. Allows m o)

abbrev pub OutcomeBy : Option Command → Option Files → Outcome → Type 0
OutcomeBy None files o = o ≡ refused
OutcomeBy (Some command) files o = Told (CommandOutcome command) files o

-- words of no form read nothing, so that no read stops them
abbrev pub FirstPartBy : Option Command → Option Files → Outcome → Type 0
FirstPartBy None files o = ⊥
FirstPartBy (Some command) files o = FirstPart command files o

-- the outcomes of a command line
abbrev pub WordsOutcome : List (List ℕ) → Option Files → Outcome → Type 0
WordsOutcome words files o = OutcomeBy (command_of words) files o

abbrev pub WordsFirstPart : List (List ℕ) → Option Files → Outcome → Type 0
WordsFirstPart words files o = FirstPartBy (command_of words) files o
