-- The instructions of compiled methods: those of startup classes, two jumps and the end with a reference (JVMS 6.5).
use Rattle.std.specs.Prelude.{ℕ, ℤ, ◌==◌, cond, nat_lt, List, [], ◌∷◌, length, drop, Option, Some, None, FitsSigned}
use Rattle.std.specs.Int.{w16, cast_signed, cast_unsigned}
use Rattle.class_code.specs.Opcodes.{size}
use Rattle.class_code.specs.Encoded.{decoded, encoded, operand_at, operand_bytes, IsWhole}
use Rattle.class_code.specs.declared.instruction.Instruction.{Instruction}
use Rattle.class_code.specs.declared.method.MethodInstruction.{MethodInstruction}
use Rattle.class_code.specs.declared.method.MethodInstruction.TheVariants as code

-- the bytes of the instruction; a jump's distance is 16 bits in two's complement
unfoldable pub method_encoded : MethodInstruction → List ℕ
method_encoded (code.Startup i) = encoded i
method_encoded (code.Ifeq n) = 0x99 ∷ operand_bytes 2 (cast_unsigned w16 n)
method_encoded (code.Goto n) = 0xa7 ∷ operand_bytes 2 (cast_unsigned w16 n)
method_encoded code.Areturn = 0xb0 ∷ []

abbrev pub startup : Option (Instruction × List ℕ) → Option (MethodInstruction × List ℕ)
startup None = None
startup (Some r) = Some (code.Startup r.0, r.1)

-- the signed number of two bytes at the front, none where fewer are left
unfoldable pub distance_at : List ℕ → Option (ℤ × List ℕ)
distance_at rest = cond (nat_lt (length rest) 2) None (Some (cast_signed w16 (operand_at 2 rest), drop 2 rest))

abbrev pub jump : (ℤ → MethodInstruction) → Option (ℤ × List ℕ) → Option (MethodInstruction × List ℕ)
jump made None = None
jump made (Some r) = Some (made r.0, r.1)

-- the instruction that the bytes begin with, and the bytes behind it; none where they begin with no whole one
unfoldable pub method_decoded : List ℕ → Option (MethodInstruction × List ℕ)
method_decoded [] = None
method_decoded (b ∷ rest) =
    cond (b == 0x99) (jump code.Ifeq (distance_at rest)) (
    cond (b == 0xa7) (jump code.Goto (distance_at rest)) (
    cond (b == 0xb0) (Some (code.Areturn, rest)) (startup (decoded (b ∷ rest)))))

-- its numbers fit their bytes
abbrev pub IsWholeMethod : MethodInstruction → Type 0
IsWholeMethod (code.Startup i) = IsWhole i
IsWholeMethod (code.Ifeq n) = FitsSigned w16 n
IsWholeMethod (code.Goto n) = FitsSigned w16 n
IsWholeMethod code.Areturn = Unit {0}

-- how many bytes it has
abbrev pub method_size : MethodInstruction → ℕ
method_size (code.Startup i) = size i.opcode
method_size (code.Ifeq n) = 3
method_size (code.Goto n) = 3
method_size code.Areturn = 1
