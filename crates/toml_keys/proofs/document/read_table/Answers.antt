use Rattle.std.proofs.Common.{◌≡◌, refl, List, ℕ, Bool, true, false, cond, None}
use Rattle.std.proofs.lemmas.Str.{IsUtf8-from_is_utf8, is_utf8-from_IsUtf8}
use Rattle.std.specs.Str.{IsUtf8, is_utf8}
use Rattle.toml.specs.Parse.{parse_document}
use Rattle.toml_keys.proofs.document.read_table.Goals as goal

refused-by : (bytes : List ℕ) (b : Bool) → is_utf8 bytes ≡ b → (IsUtf8 bytes → parse_document bytes ≡ None) → cond b (parse_document bytes) None ≡ None
refused-by bytes true is refuses = refuses (IsUtf8-from_is_utf8 bytes is)
refused-by bytes false is refuses = refl

pub returns-in-Ok-clause-ok : goal.returns-in-Ok-clause-ok
returns-in-Ok-clause-ok c =
    let read = c.in-Ok.ensures.ok in
    rw (is_utf8-from_IsUtf8 c.args.bytes.now read.0) read.1

pub returns-else-is_memory-clause-toml : goal.returns-else-is_memory-clause-toml
returns-else-is_memory-clause-toml c =
    λ _. refused-by c.args.bytes.now _ refl (c.in-Err.ensures.refused (λ memory. cc (c.if-is_memory.ensures.1 memory)))
