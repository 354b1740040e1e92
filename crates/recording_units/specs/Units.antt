-- The units of a recording's code.
use Rattle.std.specs.Prelude.{◌≡◌, ℕ, suc, ◌+◌, ◌==◌, ◌&&◌, Bool, true, false, cond, List, [], ◌∷◌, ◌++◌, length, map, Option, Some, None}
use Rattle.item_types.specs.declared.value.NodeId.{NodeId}
use Rattle.item_types.specs.declared.value.Proxy.{Proxy}
use Rattle.item_types.specs.declared.value.Value.{Value}
use Rattle.item_types.specs.declared.value.Value.TheOpen.{Value-F}
use Rattle.item_types.specs.declared.value.Value.TheOpen as one
use Rattle.item_types.specs.declared.value.Value.TheFolds.{fold-Value}
use Rattle.recorder_proxy.specs.declared.call.Call.{Call}
use Rattle.recording_units.specs.declared.types.Key.{Key}
use Rattle.recording_units.specs.declared.types.Key.TheVariants as key
use Rattle.recording_units.specs.declared.types.Kind.{Kind}
use Rattle.recording_units.specs.declared.types.Kind.TheVariants as kind
use Rattle.recording_units.specs.declared.types.Used.{Used}
use Rattle.recording_units.specs.declared.types.Kept.{Kept}
use Rattle.recording_units.specs.declared.types.Arg.{Arg}
use Rattle.recording_units.specs.declared.types.Arg.TheVariants as arg
use Rattle.recording_units.specs.declared.types.Piece.{Piece}
use Rattle.recording_units.specs.declared.types.Piece.TheVariants as piece

abbrev pub same_key : Key → Key → Bool
same_key (key.Recorder a) (key.Recorder b) = a == b
same_key (key.Node a) (key.Node b) = a.step == b.step && a.k == b.k
same_key _ _ = false

-- the number of a key, its place in the order of first use, and what is made for it
abbrev pub place : ℕ → Key → List Used → Option (ℕ × Kind)
place i k [] = None
place i k (u ∷ us) = cond (same_key k u.key) (Some (i, u.kind)) (place (i + 1) k us)

-- the keys used so far, the units that make what is used first, and how the value is pushed
pub record Listed : Type 0 where
  pub used : List Used
  pub units : List Piece
  pub value : Arg

abbrev pub Listing : Type 0
Listing = List Used → Listed

abbrev pub listed : List Used → List Piece → Arg → Listed
listed used units value = record { used = used; units = units; value = value }

abbrev pub Walked : Type 0
Walked = List Used × List Piece

abbrev pub elements : List Listing → ℕ → List Used → Walked
elements [] n used = (used, [])
elements (p ∷ ps) n used = let a = p used in let b = elements ps n a.used in (b.0, a.units ++ piece.SetElement n a.value ∷ b.1)

abbrev pub fields : List Listing → ℕ → ℕ → ℕ → List Used → Walked
fields [] n bean f used = (used, [])
fields (p ∷ ps) n bean f used = let a = p used in let b = fields ps n bean (f + 1) a.used in (b.0, a.units ++ piece.SetField n bean f a.value ∷ b.1)

-- a key that was used, or else its first use
abbrev pub used_or : Option (ℕ × Kind) → List Used → Key → Kind → (ℕ → List Used → Walked) → Listed
used_or (Some x) used k made parts = listed used [] (arg.Made x.0 x.1)
used_or None used k made parts =
    let r = parts (length used) (used ++ record { key = k; kind = made } ∷ []) in listed r.0 (piece.Make (length used) made ∷ r.1) (arg.Made (length used) made)

abbrev pub units_step : Value-F Listing → Listing
units_step one.Null used = listed used [] arg.Null
units_step (one.Bool b) used = listed used [] (arg.Bool b)
units_step (one.Long n) used = listed used [] (arg.Long n)
units_step (one.Str t) used = listed used [] (arg.Str t)
units_step (one.List id parts) used = used_or (place 0 (key.Node id) used) used (key.Node id) kind.List (elements parts)
units_step (one.Bean id bean parts) used = used_or (place 0 (key.Node id) used) used (key.Node id) (kind.Bean bean) (λ n. fields parts n bean 0)
units_step (one.Returned p) used = listed used [] (arg.Kept (record { step = p.step; call = p.call }))

abbrev pub units : Value → Listing
units = fold-Value Listing units_step

pub record ListedAll : Type 0 where
  pub used : List Used
  pub units : List Piece
  pub values : List Arg

abbrev pub units_all : List Listing → List Used → ListedAll
units_all [] used = record { used = used; units = []; values = [] }
units_all (p ∷ ps) used = let a = p used in let b = units_all ps a.used in record { used = b.used; units = a.units ++ b.units; values = a.value ∷ b.values }

-- the recorder's number, and the unit that makes it
abbrev pub recorder_units : ℕ → List Used → Listed
recorder_units r used = used_or (place 0 (key.Recorder r) used) used (key.Recorder r) (kind.Recorder r) (λ _ used. (used, []))

abbrev pub number_of : Arg → ℕ
number_of (arg.Made n k) = n
number_of _ = 0

abbrev pub kept_under : ℕ → ℕ → Bool → Option Kept
kept_under step j true = Some (record { step = step; call = j })
kept_under step j false = None

abbrev pub call_units : ℕ → ℕ → Call → List Used → Walked
call_units step j c used =
    let me = recorder_units c.recorder used in
    let args = units_all (map units c.args) me.used in
    (args.used, me.units ++ (args.units ++ piece.CallOf (number_of me.value) c.recorder c.method args.values (kept_under step j c.keeps) ∷ []))

abbrev pub calls_units : ℕ → ℕ → List Call → List Used → Walked
calls_units step j [] used = (used, [])
calls_units step j (c ∷ cs) used = let a = call_units step j c used in let b = calls_units step (j + 1) cs a.0 in (b.0, a.1 ++ b.1)
