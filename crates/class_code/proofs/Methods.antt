-- The bytes of an instruction of a compiled method read back.
use Rattle.std.proofs.Common.{◌≡◌, ℕ, ◌/◌, ◌%◌, List, ◌∷◌, ◌++◌, length, Some, refl, ap, ◌∙◌, arith, ℤ}
use Rattle.std.specs.Prelude.{FitsSigned}
use Rattle.std.specs.Int.{w16, cast_unsigned}
use Rattle.std.proofs.lemmas.Bool.{le-ltb}
use Rattle.std.proofs.lemmas.Int.{to_z-of_z}
use Rattle.class_code.specs.declared.opcode.Opcode.{Opcode}
use Rattle.class_code.specs.declared.opcode.Opcode.TheVariants as op
use Rattle.class_code.specs.declared.method.MethodInstruction.{MethodInstruction}
use Rattle.class_code.specs.declared.method.MethodInstruction.TheVariants as code
use Rattle.class_code.specs.Encoded.{decoded, encoded}
use Rattle.class_code.specs.Methods.{method_decoded, method_encoded, method_size, distance_at, startup, IsWholeMethod}
use Rattle.class_code.proofs.Whole.{read_back, length_is, halves}

jump_at : (n : ℤ) (rest : List ℕ) → FitsSigned w16 n → distance_at ((cast_unsigned w16 n / 256) ∷ (cast_unsigned w16 n % 256) ∷ rest) ≡ Some (n, rest)
unfolding distance_at
jump_at n rest fit =
    rw (le-ltb (length ((cast_unsigned w16 n / 256) ∷ (cast_unsigned w16 n % 256) ∷ rest)) 2 (omega arith), halves (cast_unsigned w16 n), to_z-of_z w16 n fit) refl

-- no instruction of startup classes begins with the byte of a jump or of the end with a reference
startup_at : (o : Opcode) (n : ℕ) (rest : List ℕ) → method_decoded (encoded (record { opcode = o; operand = n }) ++ rest) ≡ startup (decoded (encoded (record { opcode = o; operand = n }) ++ rest))
unfolding method_decoded encoded
startup_at op.AconstNull n rest = refl
startup_at op.Iconst0 n rest = refl
startup_at op.Iconst1 n rest = refl
startup_at op.Aload0 n rest = refl
startup_at op.Pop n rest = refl
startup_at op.Dup n rest = refl
startup_at op.Return n rest = refl
startup_at op.Ldc n rest = refl
startup_at op.Aload n rest = refl
startup_at op.Astore n rest = refl
startup_at op.LdcW n rest = refl
startup_at op.Ldc2W n rest = refl
startup_at op.Getstatic n rest = refl
startup_at op.Putstatic n rest = refl
startup_at op.Putfield n rest = refl
startup_at op.Invokevirtual n rest = refl
startup_at op.Invokespecial n rest = refl
startup_at op.Invokestatic n rest = refl
startup_at op.New n rest = refl
startup_at op.WideAload n rest = refl
startup_at op.WideAstore n rest = refl

pub method_read_back : (i : MethodInstruction) (rest : List ℕ) → IsWholeMethod i → method_decoded (method_encoded i ++ rest) ≡ Some (i, rest)
unfolding method_decoded method_encoded
method_read_back (code.Startup i) rest h = startup_at i.opcode i.operand rest ∙ ap startup (read_back i rest h)
method_read_back (code.Ifeq n) rest h = rw (jump_at n rest h) refl
method_read_back (code.Goto n) rest h = rw (jump_at n rest h) refl
method_read_back code.Areturn rest h = refl

pub method_length : (i : MethodInstruction) → length (method_encoded i) ≡ method_size i
unfolding method_encoded
method_length (code.Startup i) = length_is i
method_length (code.Ifeq n) = refl
method_length (code.Goto n) = refl
method_length code.Areturn = refl
