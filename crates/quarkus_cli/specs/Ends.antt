-- How the parts of a command end: a read that stops it, the writes of its files, and the delivery of its outcome. This project's own.
use Rattle.std.specs.Prelude.{◌≡◌, ℕ, ◌≤◌, ◌⊎◌, List, option_map, Result, OnOk, OnErr, IfErr}
use Rattle.aug_base.specs.Causes.{Rose}
use Rattle.aug_base.specs.Files.{File, with_files}
use Rattle.aug_base.specs.Shelves.{Shelved, Lacks}
use Rattle.aug_base.specs.declared.errors.ShelfErr.{ShelfErr}
use Rattle.aug_base.specs.declared.errors.ShelfErr.TheVariants.{Absent, Failed}
use Rattle.quarkus_cli.specs.declared.outcome.Outcome.{Outcome}
use Rattle.quarkus_cli.specs.Answers.{Outside, Later, Quiet, Done, DoneInPart, WrittenInPart}

-- a read that stopped a command, as the status tells: the name isn't there or the read failed, or memory ran out
pub record Stopped (name : List ℕ) (before now : Shelved) (status : ℕ) : Type 0 where
  pub files : now.files ≡ before.files
  pub reads : before.read_faults ≤ now.read_faults
  pub writes : now.write_faults ≡ before.write_faults
  pub cases : (status ≡ 8) ⊎ ((status ≡ 6) × (Lacks before.files name ⊎ Rose before.read_faults now.read_faults))

-- a write of all these files, in order
pub record WritesAll (files : List File) (before now : Shelved) (result : Result (Unit {0}) ShelfErr) : Type 0 where
  pub reads : now.read_faults ≡ before.read_faults
  pub later : before.write_faults ≤ now.write_faults
  pub kept : OnOk result (now.write_faults ≡ before.write_faults)
  pub ok : OnOk result (now.files ≡ option_map (with_files files) before.files)
  pub err : OnErr result (WrittenInPart files before.files now.files)
  pub failed : IfErr result (λ err. err ≡ Failed → Rose before.write_faults now.write_faults)
  pub not_absent : IfErr result (λ err. err ≡ Absent → ⊥)

-- How an outcome was delivered, as the answer tells: whole, or in part after a write or a put that failed, or for want of memory.
pub record Delivers (o : Outcome) (before now : Outside) (answer : ℕ) : Type 0 where
  pub reads : now.shelf.read_faults ≡ before.shelf.read_faults
  pub later : Later before now
  pub cases : ((answer ≡ o.status) × Quiet before now × Done o before now)
      ⊎ (((answer ≡ 7) × (Rose before.shelf.write_faults now.shelf.write_faults ⊎ Rose before.sink.faults now.sink.faults) × DoneInPart o before now)
      ⊎ ((answer ≡ 8) × DoneInPart o before now))
