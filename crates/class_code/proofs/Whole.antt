-- The bytes of an instruction read back.
use Rattle.std.proofs.Common.{◌≡◌, ℕ, ◌+◌, ◌*◌, ◌/◌, ◌%◌, ◌<◌, ◌≤◌, ◌^◌, List, ◌∷◌, ◌++◌, length, Some, refl, arith}
use Rattle.std.specs.Prelude.{Option}
use Rattle.std.proofs.lemmas.Bool.{le-ltb}
use Rattle.class_code.specs.declared.opcode.Opcode.{Opcode}
use Rattle.class_code.specs.declared.opcode.Opcode.TheVariants as op
use Rattle.class_code.specs.declared.instruction.Instruction.{Instruction}
use Rattle.class_code.specs.Opcodes.{size, width}
use Rattle.class_code.specs.Encoded.{decoded, encoded, with_opcode, fits}

abbrev Read : Type 0
Read = Option (Instruction × List ℕ)

abbrev read : Opcode → ℕ → List ℕ → Read
read o n rest = Some (record { opcode = o; operand = n }, rest)

none_at : (o : Opcode) (n : ℕ) (rest : List ℕ) → width o ≡ 0 → n ≡ 0 → with_opcode (Some o) rest ≡ read o n rest
unfolding with_opcode
none_at o n rest e z = rw (e, z, le-ltb (length rest) 0 (omega arith)) refl

one_at : (o : Opcode) (n : ℕ) (rest : List ℕ) → width o ≡ 1 → n < 2 ^ 8 → with_opcode (Some o) ((n % 256) ∷ rest) ≡ read o n rest
unfolding with_opcode
one_at o n rest e lt = let same : n % 256 ≡ n = omega (arith, lt) in rw (e, le-ltb (length ((n % 256) ∷ rest)) 1 (omega arith), same) refl

pub halves : (n : ℕ) → n / 256 * 256 + n % 256 ≡ n
halves n = omega arith

two_at : (o : Opcode) (n : ℕ) (rest : List ℕ) → width o ≡ 2 → with_opcode (Some o) ((n / 256) ∷ (n % 256) ∷ rest) ≡ read o n rest
unfolding with_opcode
two_at o n rest e = rw (e, le-ltb (length ((n / 256) ∷ (n % 256) ∷ rest)) 2 (omega arith), halves n) refl

whole : (o : Opcode) (n : ℕ) (rest : List ℕ) → fits (width o) n → decoded (encoded (record { opcode = o; operand = n }) ++ rest) ≡ read o n rest
unfolding decoded encoded
whole op.AconstNull n rest h = none_at op.AconstNull n rest refl h
whole op.Iconst0 n rest h = none_at op.Iconst0 n rest refl h
whole op.Iconst1 n rest h = none_at op.Iconst1 n rest refl h
whole op.Aload0 n rest h = none_at op.Aload0 n rest refl h
whole op.Pop n rest h = none_at op.Pop n rest refl h
whole op.Dup n rest h = none_at op.Dup n rest refl h
whole op.Return n rest h = none_at op.Return n rest refl h
whole op.Ldc n rest h = one_at op.Ldc n rest refl h
whole op.Aload n rest h = one_at op.Aload n rest refl h
whole op.Astore n rest h = one_at op.Astore n rest refl h
whole op.LdcW n rest h = two_at op.LdcW n rest refl
whole op.Ldc2W n rest h = two_at op.Ldc2W n rest refl
whole op.Getstatic n rest h = two_at op.Getstatic n rest refl
whole op.Putstatic n rest h = two_at op.Putstatic n rest refl
whole op.Putfield n rest h = two_at op.Putfield n rest refl
whole op.Invokevirtual n rest h = two_at op.Invokevirtual n rest refl
whole op.Invokespecial n rest h = two_at op.Invokespecial n rest refl
whole op.Invokestatic n rest h = two_at op.Invokestatic n rest refl
whole op.New n rest h = two_at op.New n rest refl
whole op.WideAload n rest h = two_at op.WideAload n rest refl
whole op.WideAstore n rest h = two_at op.WideAstore n rest refl

pub read_back : (i : Instruction) (rest : List ℕ) → fits (width i.opcode) i.operand → decoded (encoded i ++ rest) ≡ Some (i, rest)
read_back i rest h = whole i.opcode i.operand rest h

length_by : (o : Opcode) (n : ℕ) → length (encoded (record { opcode = o; operand = n })) ≡ size o
unfolding encoded
length_by op.AconstNull n = refl
length_by op.Iconst0 n = refl
length_by op.Iconst1 n = refl
length_by op.Aload0 n = refl
length_by op.Pop n = refl
length_by op.Dup n = refl
length_by op.Return n = refl
length_by op.Ldc n = refl
length_by op.Aload n = refl
length_by op.Astore n = refl
length_by op.LdcW n = refl
length_by op.Ldc2W n = refl
length_by op.Getstatic n = refl
length_by op.Putstatic n = refl
length_by op.Putfield n = refl
length_by op.Invokevirtual n = refl
length_by op.Invokespecial n = refl
length_by op.Invokestatic n = refl
length_by op.New n = refl
length_by op.WideAload n = refl
length_by op.WideAstore n = refl

pub length_is : (i : Instruction) → length (encoded i) ≡ size i.opcode
length_is i = length_by i.opcode i.operand

pub size_small : (o : Opcode) → size o ≤ 4
size_small op.AconstNull = omega arith
size_small op.Iconst0 = omega arith
size_small op.Iconst1 = omega arith
size_small op.Aload0 = omega arith
size_small op.Pop = omega arith
size_small op.Dup = omega arith
size_small op.Return = omega arith
size_small op.Ldc = omega arith
size_small op.Aload = omega arith
size_small op.Astore = omega arith
size_small op.LdcW = omega arith
size_small op.Ldc2W = omega arith
size_small op.Getstatic = omega arith
size_small op.Putstatic = omega arith
size_small op.Putfield = omega arith
size_small op.Invokevirtual = omega arith
size_small op.Invokespecial = omega arith
size_small op.Invokestatic = omega arith
size_small op.New = omega arith
size_small op.WideAload = omega arith
size_small op.WideAstore = omega arith

pub size_some : (o : Opcode) → 1 ≤ size o
size_some op.AconstNull = omega arith
size_some op.Iconst0 = omega arith
size_some op.Iconst1 = omega arith
size_some op.Aload0 = omega arith
size_some op.Pop = omega arith
size_some op.Dup = omega arith
size_some op.Return = omega arith
size_some op.Ldc = omega arith
size_some op.Aload = omega arith
size_some op.Astore = omega arith
size_some op.LdcW = omega arith
size_some op.Ldc2W = omega arith
size_some op.Getstatic = omega arith
size_some op.Putstatic = omega arith
size_some op.Putfield = omega arith
size_some op.Invokevirtual = omega arith
size_some op.Invokespecial = omega arith
size_some op.Invokestatic = omega arith
size_some op.New = omega arith
size_some op.WideAload = omega arith
size_some op.WideAstore = omega arith
