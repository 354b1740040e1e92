-- The map that a list of files makes, and that a map by name makes (this project's own).
use Rattle.std.specs.Prelude.{ℕ, List, [], ◌∷◌, String}
use Rattle.std.specs.BTreeMap.{BTreeMap, get_by_text}
use Rattle.std.specs.declared.alloc.Global.{Global}
use Rattle.aug_base.specs.Files.{Files, File, with_file}

-- the files of a list over those of a map, the first of a name before the others
abbrev pub files_over : List File → Files → Files
files_over [] m = m
files_over (file ∷ files) m = with_file file (files_over files m)

-- the files by their names
abbrev pub map_files : BTreeMap (String Global) (List ℕ) → Files
map_files files name = get_by_text files name
