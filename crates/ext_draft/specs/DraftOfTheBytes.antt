-- What a project file's bytes say, key by key, or the first fault of the first walk over them. This project's own.
use Rattle.std.specs.Prelude.{ℕ, ◌+◌, List, length, cond, nat_le, Option, Some, None, Result, Err, codes}
use Rattle.toml.specs.Data.{Members}
use Rattle.toml_keys.specs.Documents.{table_of}
use Rattle.ext_draft.specs.FirstWalk.{file}
use Rattle.ext_draft.specs.declared.draft.Draft.{Draft}
use Rattle.ext_draft.specs.declared.fault.DraftFault.{DraftFault}
use Rattle.ext_draft.specs.declared.fault.DraftFault.TheVariants.{Limit, Toml}

abbrev pub draft_of_table : Option Members → Result Draft DraftFault
draft_of_table None = Err Toml
draft_of_table (Some table) = file table

-- where no more than `limit` bytes are read
abbrev pub draft_within : ℕ → List ℕ → Result Draft DraftFault
draft_within limit bytes =
    cond (nat_le (length bytes) limit) (draft_of_table (table_of bytes)) (Err (Limit (codes "file") (limit + 1)))

unfoldable pub draft : List ℕ → Result Draft DraftFault
draft bytes = draft_within 1048576 bytes
