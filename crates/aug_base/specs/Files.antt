-- A map from names to bytes, and what a write makes of it (this project's own).
use Rattle.std.specs.Prelude.{ℕ, suc, ◌≡◌, ◌++◌, List, [], ◌∷◌, Option, Some, None, bytes_eq, if◌then◌else◌}

-- the bytes under each name, if there are any
abbrev pub Files : Type 0
Files = List ℕ → Option (List ℕ)

-- a name and bytes
abbrev pub File : Type 0
File = List ℕ × List ℕ

-- no file
abbrev pub no_files : Files
no_files name = None

-- the map with this file in place of what stood under its name, every other name as before
abbrev pub with_file : File → Files → Files
with_file file m name = if bytes_eq name file.0 then Some file.1 else m name

-- the map after these files are written, the first of them first
abbrev pub with_files : List File → Files → Files
with_files [] m = m
with_files (file ∷ files) m = with_files files (with_file file m)

-- the files of a list, the first of a name before the others
abbrev pub files_of : List File → Files
files_of [] = no_files
files_of (file ∷ files) = with_file file (files_of files)

-- a list that the other begins with
abbrev pub Begins : List ℕ → List ℕ → Type 0
Begins front whole = (rest : List ℕ) × (whole ≡ front ++ rest)

-- where the first file of this name stands in a list, or the list's length
abbrev pub place : List ℕ → List File → ℕ
place name [] = 0
place name (file ∷ files) = if bytes_eq name file.0 then 0 else suc (place name files)
