-- What a shelf is, and what a read and a write of it do (this project's own).
use Rattle.std.specs.Prelude.{ℕ, ◌≤◌, ◌≡◌, ◌⊎◌, List, length, take, Option, Some, None, option_map, IfSome, Result, IfOk, OnOk, OnErr, IfErr}
use Rattle.aug_base.specs.declared.errors.ShelfErr.{ShelfErr}
use Rattle.aug_base.specs.declared.errors.ShelfErr.TheVariants.{Absent, Failed}
use Rattle.aug_base.specs.Causes.{Rose}
use Rattle.aug_base.specs.Files.{Files, with_file, Begins}

-- how often reads and writes have failed, and, where the shelf tells it, what is on it
pub record Shelved : Type 0 where
  pub read_faults : ℕ
  pub write_faults : ℕ
  pub files : Option Files

-- the map tells these first bytes of the file, at most as many as the limit
abbrev pub Holds : Files → List ℕ → ℕ → List ℕ → Type 0
Holds m name limit bytes = option_map (take limit) (m name) ≡ Some bytes

-- the shelf tells its map, and the name isn't in it
abbrev pub Lacks : Option Files → List ℕ → Type 0
Lacks files name = (m : Files) × (files ≡ Some m) × (m name ≡ None)

-- a read of a file's first bytes
pub record Reads (name : List ℕ) (limit : ℕ) (before now : Shelved) (result : Result (List ℕ) ShelfErr) : Type 0 where
  pub files : now.files ≡ before.files
  pub writes : now.write_faults ≡ before.write_faults
  pub later : before.read_faults ≤ now.read_faults
  pub kept : OnOk result (now.read_faults ≡ before.read_faults)
  pub within : IfOk result (λ bytes. length bytes ≤ limit)
  pub bytes : IfOk result (λ bytes. IfSome before.files (λ m. Holds m name limit bytes))
  pub absent : IfErr result (λ err. err ≡ Absent → Lacks before.files name)
  pub absent_kept : IfErr result (λ err. err ≡ Absent → now.read_faults ≡ before.read_faults)
  pub failed : IfErr result (λ err. err ≡ Failed → Rose before.read_faults now.read_faults)

-- what is left of a map by a write that failed: nothing written, or a prefix of the bytes under the name
abbrev pub Torn : List ℕ → List ℕ → Option Files → Option Files → Type 0
Torn name bytes before now = (now ≡ before) ⊎ ((front : List ℕ) × Begins front bytes × (now ≡ option_map (with_file (name, front)) before))

-- a write of a whole file
pub record Writes (name bytes : List ℕ) (before now : Shelved) (result : Result (Unit {0}) ShelfErr) : Type 0 where
  pub reads : now.read_faults ≡ before.read_faults
  pub later : before.write_faults ≤ now.write_faults
  pub kept : OnOk result (now.write_faults ≡ before.write_faults)
  pub ok : OnOk result (now.files ≡ option_map (with_file (name, bytes)) before.files)
  pub err : OnErr result (Torn name bytes before.files now.files)
  pub failed : IfErr result (λ err. err ≡ Failed → Rose before.write_faults now.write_faults)
  pub not_absent : IfErr result (λ err. err ≡ Absent → ⊥)
