-- The instructions that startup classes use (JVMS 6.5): a row each, with its byte, its mnemonic and the width of its operand.
use Rattle.std.specs.Prelude.{ℕ, ◌+◌, cond, ◌==◌, List, [], ◌∷◌, length, Option, Some, None, codes}
use Rattle.class_code.specs.declared.opcode.Opcode.{Opcode}
use Rattle.class_code.specs.declared.opcode.Opcode.TheVariants as op

abbrev pub opcode_of : ℕ → Option Opcode
opcode_of b =
    cond (b == 0x01) (Some op.AconstNull) (
    cond (b == 0x03) (Some op.Iconst0) (
    cond (b == 0x04) (Some op.Iconst1) (
    cond (b == 0x12) (Some op.Ldc) (
    cond (b == 0x13) (Some op.LdcW) (
    cond (b == 0x14) (Some op.Ldc2W) (
    cond (b == 0x19) (Some op.Aload) (
    cond (b == 0x2a) (Some op.Aload0) (
    cond (b == 0x3a) (Some op.Astore) (
    cond (b == 0x57) (Some op.Pop) (
    cond (b == 0x59) (Some op.Dup) (
    cond (b == 0xb1) (Some op.Return) (
    cond (b == 0xb2) (Some op.Getstatic) (
    cond (b == 0xb3) (Some op.Putstatic) (
    cond (b == 0xb5) (Some op.Putfield) (
    cond (b == 0xb6) (Some op.Invokevirtual) (
    cond (b == 0xb7) (Some op.Invokespecial) (
    cond (b == 0xb8) (Some op.Invokestatic) (
    cond (b == 0xbb) (Some op.New) None))))))))))))))))))

-- behind `wide`
abbrev pub wide_of : ℕ → Option Opcode
wide_of b = cond (b == 0x19) (Some op.WideAload) (cond (b == 0x3a) (Some op.WideAstore) None)

abbrev pub word : Opcode → List ℕ
word op.AconstNull = codes "aconst_null"
word op.Iconst0 = codes "iconst_0"
word op.Iconst1 = codes "iconst_1"
word op.Ldc = codes "ldc"
word op.LdcW = codes "ldc_w"
word op.Ldc2W = codes "ldc2_w"
word op.Aload = codes "aload"
word op.Aload0 = codes "aload_0"
word op.Astore = codes "astore"
word op.Pop = codes "pop"
word op.Dup = codes "dup"
word op.Return = codes "return"
word op.Getstatic = codes "getstatic"
word op.Putstatic = codes "putstatic"
word op.Putfield = codes "putfield"
word op.Invokevirtual = codes "invokevirtual"
word op.Invokespecial = codes "invokespecial"
word op.Invokestatic = codes "invokestatic"
word op.New = codes "new"
word op.WideAload = codes "wide aload"
word op.WideAstore = codes "wide astore"

-- the bytes of the opcode
abbrev pub bytes_of : Opcode → List ℕ
bytes_of op.AconstNull = 1 ∷ []
bytes_of op.Iconst0 = 3 ∷ []
bytes_of op.Iconst1 = 4 ∷ []
bytes_of op.Ldc = 18 ∷ []
bytes_of op.LdcW = 19 ∷ []
bytes_of op.Ldc2W = 20 ∷ []
bytes_of op.Aload = 25 ∷ []
bytes_of op.Aload0 = 42 ∷ []
bytes_of op.Astore = 58 ∷ []
bytes_of op.Pop = 87 ∷ []
bytes_of op.Dup = 89 ∷ []
bytes_of op.Return = 177 ∷ []
bytes_of op.Getstatic = 178 ∷ []
bytes_of op.Putstatic = 179 ∷ []
bytes_of op.Putfield = 181 ∷ []
bytes_of op.Invokevirtual = 182 ∷ []
bytes_of op.Invokespecial = 183 ∷ []
bytes_of op.Invokestatic = 184 ∷ []
bytes_of op.New = 187 ∷ []
bytes_of op.WideAload = 0xc4 ∷ 25 ∷ []
bytes_of op.WideAstore = 0xc4 ∷ 58 ∷ []

-- how many bytes the operand has
abbrev pub width : Opcode → ℕ
width op.AconstNull = 0
width op.Iconst0 = 0
width op.Iconst1 = 0
width op.Ldc = 1
width op.LdcW = 2
width op.Ldc2W = 2
width op.Aload = 1
width op.Aload0 = 0
width op.Astore = 1
width op.Pop = 0
width op.Dup = 0
width op.Return = 0
width op.Getstatic = 2
width op.Putstatic = 2
width op.Putfield = 2
width op.Invokevirtual = 2
width op.Invokespecial = 2
width op.Invokestatic = 2
width op.New = 2
width op.WideAload = 2
width op.WideAstore = 2

-- how many bytes an instruction has
abbrev pub size : Opcode → ℕ
size o = length (bytes_of o) + width o
