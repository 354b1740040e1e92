-- What an evaluation spends, and the limits that it is held to. This project's own.
use Rattle.std.specs.Prelude.{ℕ, ℤ, ◌+◌, ◌==◌, ◌||◌, map, sum, length, Bool, nat_lt, if◌then◌else◌, List, [], ◌∷◌, ◌++◌, slice_get, Option, Some, None, Ok, Err}
use Rattle.std.specs.List.{list_any}
use Rattle.item_types.specs.Measure.{cells, text_len, depth}
use Rattle.item_types.specs.Named.{key}
use Rattle.item_types.specs.declared.decl.ItemDecl.{ItemDecl}
use Rattle.item_types.specs.declared.decl.ItemKind.{ItemKind}
use Rattle.item_types.specs.declared.decl.ItemKind.TheVariants as kind
use Rattle.item_types.specs.declared.decl.Names.{Names}
use Rattle.item_types.specs.declared.value.Value.{Value}
use Rattle.item_types.specs.declared.value.Value.TheVariants as made_of
use Rattle.step_state.specs.declared.outcome.Reason.TheVariants.{Twice, NoKey, TooDeep, TooManyTurns, TooManyCells, TooMuchText, TooManyPut, TooManyRecorded}
use Rattle.step_state.specs.declared.state.State.{State}
use Rattle.step_state.specs.Evaluation.{Checked, Eval, ◌>>=◌, ◌>>◌, lift}

-- nothing made, produced or recorded yet
abbrev pub start : State
start = record { scope = []; nodes = 0; turns = 0; cells = 0; text = 0; puts = []; put_cells = 0; put_text = 0; calls = []; call_cells = 0; call_text = 0 }

-- one more statement or turn, of 100,000
abbrev pub turn : Eval (Unit {0})
turn = λ s. if nat_lt s.turns 100000 then Ok (tt, record s { turns = s.turns + 1 }) else Err TooManyTurns

-- the value of an expression whose first token is this: a depth of 64, 65,536 cells and 1,048,576 bytes of text in all
abbrev pub made : ℕ → Value → Eval Value
made at v = λ s.
    if nat_lt 64 (depth v) then Err (TooDeep at)
    else (if nat_lt 65536 (s.cells + cells v) then Err TooManyCells
    else (if nat_lt 1048576 (s.text + text_len v) then Err TooMuchText
    else Ok (v, record s { cells = s.cells + cells v; text = s.text + text_len v })))

-- the number of a new node: how many were made before
abbrev pub node : Eval ℕ
node = λ s. Ok (s.nodes, record s { nodes = s.nodes + 1 })

-- a new list, as the value of an expression
unfoldable pub made_list : ℕ → ℕ → List Value → Eval Value
made_list at step parts = node >>= (λ k. made at (made_of.List (record { step = step; k = k }) parts))

-- a new bean, as the value of an expression
unfoldable pub made_bean : ℕ → ℕ → ℕ → List Value → Eval Value
made_bean at step bean parts = node >>= (λ k. made at (made_of.Bean (record { step = step; k = k }) bean parts))

abbrev pub is_put : ℕ → List (ℕ × Value) → Bool
is_put item = list_any (λ p. p.0 == item)

abbrev pub keyed : ℕ → Option ℤ → Checked (Unit {0})
keyed item None = Err (NoKey item)
keyed item (Some n) = Ok tt

-- a simple item is produced once, and a value of an ordered item has a key
abbrev pub fits_kind : Names → ℕ → Value → List (ℕ × Value) → ItemKind → Checked (Unit {0})
fits_kind names item v puts kind.Simple = if is_put item puts then Err (Twice item) else Ok tt
fits_kind names item v puts kind.Multi = Ok tt
fits_kind names item v puts (kind.Ordered field) = keyed item (key names field v)
fits_kind names item v puts kind.Empty = Ok tt

abbrev pub fits_item : Names → ℕ → Value → List (ℕ × Value) → Option ItemDecl → Checked (Unit {0})
fits_item names item v puts None = Ok tt
fits_item names item v puts (Some decl) = fits_kind names item v puts decl.kind

-- one more put, of 4,096 cells and 131,072 bytes of text
abbrev pub keep_put : ℕ → Value → Eval (Unit {0})
keep_put item v = λ s.
    if nat_lt 4096 (s.put_cells + cells v) || nat_lt 131072 (s.put_text + text_len v) then Err TooManyPut
    else Ok (tt, record s { puts = s.puts ++ (item, v) ∷ []; put_cells = s.put_cells + cells v; put_text = s.put_text + text_len v })

-- puts a value of the item
unfoldable pub put : Names → ℕ → Value → Eval (Unit {0})
put names item v = λ s. (lift (fits_item names item v s.puts (slice_get names.items item)) >> keep_put item v) s

-- one more recorded call, of 8,192 cells and 131,072 bytes of text, a call one cell and its arguments; it gives the call's number
unfoldable pub record_call : ℕ → ℕ → List Value → Bool → Eval ℕ
record_call recorder method args keeps = λ s.
    if nat_lt 8192 (s.call_cells + (1 + sum (map cells args))) || nat_lt 131072 (s.call_text + sum (map text_len args)) then Err TooManyRecorded
    else Ok (
      length s.calls,
      record s {
        calls = s.calls ++ record { recorder = recorder; method = method; args = args; keeps = keeps } ∷ [];
        call_cells = s.call_cells + (1 + sum (map cells args));
        call_text = s.call_text + sum (map text_len args);
      },
    )
