-- The files of a system, and what one call on them does (this project's own). A call that refuses is counted.
use Rattle.std.specs.Prelude.{ℕ, ◌<◌, ◌≤◌, ◌≡◌, ◌++◌, List, [], length, take, Option, Some, None, option_map, IfSome, Result, IfOk, OnOk, OnErr, bytes_eq, if◌then◌else◌, codes, decimal}
use Rattle.aug_base.specs.declared.system.SystemErr.{SystemErr}
use Rattle.aug_base.specs.Causes.{Rose}
use Rattle.aug_base.specs.Files.{Files, with_file}
use Rattle.aug_base.specs.Sinks.{Taken, Grows}

-- how many calls have refused, and, where the system tells it, what each name holds and what the file that is read has left
pub record Disk : Type 0 where
  pub faults : ℕ
  pub files : Option Files
  pub left : Option (List ℕ)

-- the map with no file of this name
abbrev pub without : List ℕ → Files → Files
without name m q = if bytes_eq q name then None else m q

-- the map with more bytes at the end of a file
abbrev pub with_more : List ℕ → List ℕ → Files → Files
with_more name more m q = if bytes_eq q name then option_map (λ bytes. bytes ++ more) (m q) else m q

-- the map after a file goes from its name to another, in place of what stood there
abbrev pub renamed : List ℕ → List ℕ → Files → Files
renamed from to m q = if bytes_eq q to then m from else (if bytes_eq q from then None else m q)

-- a call counts nothing where it goes well, and a fault where it refuses
pub record Counts {A : Type 0} (before now : Disk) (result : Result A SystemErr) : Type 0 where
  pub later : before.faults ≤ now.faults
  pub kept : OnOk result (now.faults ≡ before.faults)
  pub failed : OnErr result (Rose before.faults now.faults)

-- a file is opened, to be read from its first byte on
pub record Opens (name : List ℕ) (before now : Disk) (result : Result (Unit {0}) SystemErr) : Type 0 where
  pub counts : Counts before now result
  pub files : now.files ≡ before.files
  pub left : OnOk result (IfSome before.files (λ m. (m name ≡ now.left) × ((bytes : List ℕ) × (now.left ≡ Some bytes))))

-- the open file gives its next bytes, at most as many as there is room for: none only at its end
pub record Gives (buffer : List ℕ) (before now : Disk) (result : Result ℕ SystemErr) : Type 0 where
  pub counts : Counts before now result
  pub files : now.files ≡ before.files
  pub within : IfOk result (λ n. n ≤ length buffer)
  pub bytes : IfOk result (λ n. before.left ≡ option_map (λ rest. take n buffer ++ rest) now.left)
  pub end : IfOk result (λ n. n ≡ 0 → 0 < length buffer → now.left ≡ option_map (λ rest. []) now.left)
  pub err : OnErr result (now.left ≡ before.left)

-- the map becomes what `change` makes of it, or stays where the call refuses
pub record Changes (change : Files → Files) (before now : Disk) (result : Result (Unit {0}) SystemErr) : Type 0 where
  pub counts : Counts before now result
  pub ok : OnOk result (now.files ≡ option_map change before.files)
  pub err : OnErr result (now.files ≡ before.files)

-- the first bytes of a piece go to the end of a file: none only of an empty piece
pub record AppendsSome (name piece : List ℕ) (before now : Disk) (result : Result ℕ SystemErr) : Type 0 where
  pub counts : Counts before now result
  pub within : IfOk result (λ n. n ≤ length piece)
  pub some : IfOk result (λ n. n ≡ 0 → length piece ≡ 0)
  pub ok : IfOk result (λ n. now.files ≡ option_map (with_more name (take n piece)) before.files)
  pub err : OnErr result (now.files ≡ before.files)

-- no file changes
pub record Stays (before now : Disk) (result : Result (Unit {0}) SystemErr) : Type 0 where
  pub counts : Counts before now result
  pub files : now.files ≡ before.files

-- a name beside a file, under which its new bytes are gathered
abbrev pub IsPart : List ℕ → List ℕ → Type 0
IsPart name part = (n : ℕ) × (part ≡ name ++ codes "." ++ decimal n ++ codes ".part")

-- each name but this one holds what it held
abbrev pub OthersStay : List ℕ → Option Files → Option Files → Type 0
OthersStay name before now = option_map (without name) now ≡ option_map (without name) before

-- the file has the bytes, a part of it is gone, and each other name holds what it held
abbrev pub Replaced : List ℕ → List ℕ → Option Files → Option Files → Type 0
Replaced name bytes before now =
    (part : List ℕ) × IsPart name part × (now ≡ option_map (λ m. with_file (name, bytes) (without part m)) before)

-- each name but a part of the file holds what it held
abbrev pub StaysBut : List ℕ → Option Files → Option Files → Type 0
StaysBut name before now = (part : List ℕ) × IsPart name part × OthersStay part before now

-- the first bytes of a piece go to a stream: none only of an empty piece. A write that refuses is counted
pub record Streams (piece : List ℕ) (before now : Taken) (result : Result ℕ SystemErr) : Type 0 where
  pub later : before.faults ≤ now.faults
  pub within : IfOk result (λ n. n ≤ length piece)
  pub some : IfOk result (λ n. n ≡ 0 → length piece ≡ 0)
  pub ok : IfOk result (λ n. Grows (take n piece) before.bytes now.bytes)
  pub err : OnErr result (now.bytes ≡ before.bytes)
  pub failed : OnErr result (Rose before.faults now.faults)
