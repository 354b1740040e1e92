-- Why a step failed, in words. This project's own.
use Rattle.std.specs.Prelude.{ℕ, List, [], ◌++◌, Option, Some, None, slice_get, codes}
use Rattle.std.specs.Fmt.{decimal}
use Rattle.item_types.specs.Printed.{proxy_text}
use Rattle.item_types.specs.Quoted.{quoted}
use Rattle.item_types.specs.declared.decl.ItemDecl.{ItemDecl}
use Rattle.item_types.specs.declared.decl.Names.{Names}
use Rattle.step_state.specs.declared.outcome.Reason.{Reason}
use Rattle.step_state.specs.declared.outcome.Reason.TheVariants as reason

abbrev pub name_of : Option ItemDecl → List ℕ
name_of None = []
name_of (Some decl) = decl.name

-- the name of the item of that number
abbrev pub item_text : Names → ℕ → List ℕ
item_text names item = name_of (slice_get names.items item)

abbrev pub reason_text : Names → Reason → List ℕ
reason_text names (reason.Said text) = quoted text
reason_text names (reason.Kind at) = codes "kind at " ++ decimal at
reason_text names (reason.ProxyUsed at) = codes "proxy used at " ++ decimal at
reason_text names (reason.Twice item) = codes "item " ++ item_text names item ++ codes " twice"
reason_text names (reason.NoKey item) = codes "item " ++ item_text names item ++ codes " without key"
reason_text names (reason.RuntimeInStatic proxy) = codes "runtime proxy " ++ proxy_text proxy ++ codes " in a static step"
reason_text names (reason.TooDeep at) = codes "value too deep at " ++ decimal at
reason_text names (reason.TooManyTaken item) = codes "too much taken of " ++ item_text names item
reason_text names reason.TooManyTurns = codes "too many turns"
reason_text names reason.TooManyCells = codes "too many cells"
reason_text names reason.TooMuchText = codes "too much text"
reason_text names reason.TextTooLong = codes "text too long"
reason_text names reason.TooManyPut = codes "too much put"
reason_text names reason.TooManyRecorded = codes "too many recorded"
