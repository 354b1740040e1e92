-- What the paths of a table's keys begin with, where the table is the file's own or an entry of a list. This project's own.
use Rattle.std.specs.Prelude.{ℕ, List, [], ◌++◌}
use Rattle.ext_draft.specs.Paths.{nth, inside}
use Rattle.ext_draft.specs.declared.prefix.Prefix.{Prefix, File, Entry'}

abbrev pub shown : Prefix → List ℕ
shown File = []
shown (Entry' p outer key n) = inside (nth (shown outer ++ key.now) n)
