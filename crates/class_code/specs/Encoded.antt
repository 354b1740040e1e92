-- The bytes of an instruction, and the instruction that bytes begin with (JVMS 6.5): the opcode, and behind it the operand, high byte first.
use Rattle.std.specs.Prelude.{◌≡◌, ℕ, ◌+◌, ◌*◌, ◌/◌, ◌%◌, ◌^◌, ◌<◌, cond, nat_lt, ◌==◌, get_or, List, [], ◌∷◌, ◌++◌, length, drop, Option, Some, None}
use Rattle.class_code.specs.Opcodes.{opcode_of, wide_of, bytes_of, width}
use Rattle.class_code.specs.declared.opcode.Opcode.{Opcode}
use Rattle.class_code.specs.declared.instruction.Instruction.{Instruction}

-- the operand at the front of the bytes, high byte first
abbrev pub operand_at : ℕ → List ℕ → ℕ
operand_at w rest = cond (w == 0) 0 (cond (w == 1) (get_or rest 0 0) (get_or rest 0 0 * 256 + get_or rest 1 0))

-- the instruction with this opcode, its operand at the front of the rest, and what follows it
unfoldable pub with_opcode : Option Opcode → List ℕ → Option (Instruction × List ℕ)
with_opcode None rest = None
with_opcode (Some o) rest = cond (nat_lt (length rest) (width o)) None (Some (record { opcode = o; operand = operand_at (width o) rest }, drop (width o) rest))

abbrev pub behind_wide : List ℕ → Option (Instruction × List ℕ)
behind_wide [] = None
behind_wide (b ∷ rest) = with_opcode (wide_of b) rest

-- the instruction that the bytes begin with, and the bytes behind it; none where they begin with no whole one
unfoldable pub decoded : List ℕ → Option (Instruction × List ℕ)
decoded [] = None
decoded (b ∷ rest) = cond (b == 0xc4) (behind_wide rest) (with_opcode (opcode_of b) rest)

-- an operand of so many bytes
abbrev pub operand_bytes : ℕ → ℕ → List ℕ
operand_bytes w n = cond (w == 0) [] (cond (w == 1) ((n % 256) ∷ []) ((n / 256) ∷ (n % 256) ∷ []))

-- the bytes of the instruction
unfoldable pub encoded : Instruction → List ℕ
encoded i = bytes_of i.opcode ++ operand_bytes (width i.opcode) i.operand

-- the operand fits its bytes
abbrev pub fits : ℕ → ℕ → Type 0
fits w n = cond (w == 0) (n ≡ 0) (cond (w == 1) (n < 2 ^ 8) (n < 2 ^ 16))

abbrev pub IsBytes : List ℕ → Type 0
IsBytes bytes = (i : ℕ) → get_or bytes i 0 < 256

abbrev pub IsWhole : Instruction → Type 0
IsWhole i = fits (width i.opcode) i.operand

-- what a call returned, seen by view, is what the function on lists gives
abbrev pub Gives : {X Y : Type 0} → (X → Y) → Option X → Option Y → Type 0
Gives view None taken = taken ≡ None
Gives view (Some x) taken = taken ≡ Some (view x)
