-- Bytes that begin with an instruction are its bytes and what follows.
use Rattle.std.proofs.Common.{◌≡◌, ℕ, zero, suc, ◌+◌, ◌*◌, ◌/◌, ◌%◌, ◌<◌, ◌≤◌, List, [], ◌∷◌, ◌++◌, length, Some, None, Bool, true, false, refl, ap, ◌∙◌, sym, subst, arith}
use Rattle.std.specs.Prelude.{Option, IfSome, nat_lt, drop, cond, ◌==◌}
use Rattle.std.proofs.lemmas.Bool.{eqb-true}
use Rattle.std.proofs.lemmas.List.{append_assoc, length-append}
use Rattle.class_code.proofs.Whole.{length_is}
use Rattle.std.proofs.lemmas.Bool.Decides.{nat_tests}
use Rattle.class_code.specs.declared.opcode.Opcode.{Opcode}
use Rattle.class_code.specs.declared.opcode.Opcode.TheVariants as op
use Rattle.class_code.specs.declared.instruction.Instruction.{Instruction}
use Rattle.class_code.specs.Opcodes.{opcode_of, wide_of, width, bytes_of, size}
use Rattle.class_code.specs.Encoded.{decoded, encoded, behind_wide, with_opcode, operand_bytes, operand_at, fits, Gives, IsBytes, IsWhole}

abbrev Read : Type 0
Read = Option (Instruction × List ℕ)

abbrev pair : Instruction → List ℕ → Instruction × List ℕ
pair i more = (i, more)

abbrev made : Opcode → ℕ → List ℕ → Instruction
made o w rest = record { opcode = o; operand = operand_at w rest }

-- what was taken: the operand of w bytes, and the rest behind it
record Took (w : ℕ) (o : Opcode) (rest : List ℕ) (i : Instruction) (more : List ℕ) : Type 0 where
  enough : w ≤ length rest
  is : made o w rest ≡ i
  left : drop w rest ≡ more

took_by : (b : Bool) (w : ℕ) (o : Opcode) (rest : List ℕ) (i : Instruction) (more : List ℕ) → nat_lt (length rest) w ≡ b → cond {A = Read} b None (Some (made o w rest, drop w rest)) ≡ Some (i, more) → Took w o rest i more
took_by true w o rest i more t e = absurd cc
took_by false w o rest i more t e =
    let same : pair (made o w rest) (drop w rest) ≡ pair i more = cc in
    record { enough = grind (arith, nat_tests, t); is = ap (λ x. x.0) same; left = ap (λ x. x.1) same }

took : (o : Opcode) (rest : List ℕ) (i : Instruction) (more : List ℕ) → with_opcode (Some o) rest ≡ Some (i, more) → Took (width o) o rest i more
unfolding with_opcode
took o rest i more e = took_by (nat_lt (length rest) (width o)) (width o) o rest i more refl e

-- the operand's bytes are those that were taken
record Spelled (w n : ℕ) (rest more : List ℕ) : Type 0 where
  fit : fits w n
  bytes : rest ≡ operand_bytes w n ++ more

spelled_one : (a : ℕ) (rest : List ℕ) → a < 256 → Spelled 1 a (a ∷ rest) rest
spelled_one a rest lt = record { fit = omega (arith, lt); bytes = ap (λ n. n ∷ rest) (omega (arith, lt)) }

high : (a b : ℕ) → b < 256 → a ≡ (a * 256 + b) / 256
high a b lt = omega (arith, lt)

low : (a b : ℕ) → b < 256 → b ≡ (a * 256 + b) % 256
low a b lt = omega (arith, lt)

spelled_two : (a b : ℕ) (rest : List ℕ) → a < 256 → b < 256 → Spelled 2 (a * 256 + b) (a ∷ b ∷ rest) rest
spelled_two a b rest la lb = record { fit = omega (arith, la, lb); bytes = ap (λ n. n ∷ b ∷ rest) (high a b lb) ∙ ap (λ n. ((a * 256 + b) / 256) ∷ n ∷ rest) (low a b lb) }

spelled : (w : ℕ) (rest : List ℕ) → w ≤ 2 → w ≤ length rest → IsBytes rest → Spelled w (operand_at w rest) rest (drop w rest)
spelled zero rest small le are = record { fit = refl; bytes = refl }
spelled (suc zero) [] small le are = absurd (omega (arith, le))
spelled (suc zero) (a ∷ rest) small le are = spelled_one a rest (are 0)
spelled (suc (suc zero)) [] small le are = absurd (omega (arith, le))
spelled (suc (suc zero)) (a ∷ []) small le are = absurd (omega (arith, le))
spelled (suc (suc zero)) (a ∷ b ∷ rest) small le are = spelled_two a b rest (are 0) (are 1)
spelled (suc (suc (suc w))) rest small le are = absurd (omega (arith, small))

width_small : (o : Opcode) → width o ≤ 2
width_small op.AconstNull = omega arith
width_small op.Iconst0 = omega arith
width_small op.Iconst1 = omega arith
width_small op.Aload0 = omega arith
width_small op.Pop = omega arith
width_small op.Dup = omega arith
width_small op.Return = omega arith
width_small op.Ldc = omega arith
width_small op.Aload = omega arith
width_small op.Astore = omega arith
width_small op.LdcW = omega arith
width_small op.Ldc2W = omega arith
width_small op.Getstatic = omega arith
width_small op.Putstatic = omega arith
width_small op.Putfield = omega arith
width_small op.Invokevirtual = omega arith
width_small op.Invokespecial = omega arith
width_small op.Invokestatic = omega arith
width_small op.New = omega arith
width_small op.WideAload = omega arith
width_small op.WideAstore = omega arith

abbrev Is : List ℕ → Instruction → List ℕ → Type 0
Is bytes i more = IsWhole i × (bytes ≡ encoded i ++ more)

-- an opcode that was found by its bytes, and its operand behind it
behind : (front : List ℕ) (o : Opcode) (rest more : List ℕ) (i : Instruction) → front ≡ bytes_of o → IsBytes rest → Took (width o) o rest i more → Is (front ++ rest) i more
unfolding encoded
behind front o rest more i e are t =
    let s = spelled (width o) rest (width_small o) t.enough are in
    subst (λ (j : Instruction). Is (front ++ rest) j more) t.is
    (subst (λ (xs : List ℕ). Is (front ++ rest) (made o (width o) rest) xs) t.left
    (s.fit, rw e (ap (λ xs. bytes_of o ++ xs) s.bytes ∙ sym (append_assoc (bytes_of o) (operand_bytes (width o) (operand_at (width o) rest)) (drop (width o) rest)))))

-- ---- the opcode of a byte

row_by : (t : Bool) (front : List ℕ) (b k : ℕ) (o p : Opcode) (rest : Option Opcode) → (b == k) ≡ t → front ++ k ∷ [] ≡ bytes_of p → (rest ≡ Some o → front ++ b ∷ [] ≡ bytes_of o) → cond t (Some p) rest ≡ Some o → front ++ b ∷ [] ≡ bytes_of o
row_by true front b k o p rest t is others e = let same : p ≡ o = cc in ap (λ n. front ++ n ∷ []) (eqb-true b k t) ∙ is ∙ ap bytes_of same
row_by false front b k o p rest t is others e = others e

row : (front : List ℕ) (b k : ℕ) (o p : Opcode) (rest : Option Opcode) → front ++ k ∷ [] ≡ bytes_of p → (rest ≡ Some o → front ++ b ∷ [] ≡ bytes_of o) → cond (b == k) (Some p) rest ≡ Some o → front ++ b ∷ [] ≡ bytes_of o
row front b k o p rest is others e = row_by (b == k) front b k o p rest refl is others e

none_left : (bytes : List ℕ) (o : Opcode) → None ≡ Some o → bytes ≡ bytes_of o
none_left bytes o e = absurd cc

opcode_bytes : (b : ℕ) (o : Opcode) → opcode_of b ≡ Some o → [] ++ b ∷ [] ≡ bytes_of o
opcode_bytes b o =
    row [] b 1 o op.AconstNull _ refl (
    row [] b 3 o op.Iconst0 _ refl (
    row [] b 4 o op.Iconst1 _ refl (
    row [] b 18 o op.Ldc _ refl (
    row [] b 19 o op.LdcW _ refl (
    row [] b 20 o op.Ldc2W _ refl (
    row [] b 25 o op.Aload _ refl (
    row [] b 42 o op.Aload0 _ refl (
    row [] b 58 o op.Astore _ refl (
    row [] b 87 o op.Pop _ refl (
    row [] b 89 o op.Dup _ refl (
    row [] b 177 o op.Return _ refl (
    row [] b 178 o op.Getstatic _ refl (
    row [] b 179 o op.Putstatic _ refl (
    row [] b 181 o op.Putfield _ refl (
    row [] b 182 o op.Invokevirtual _ refl (
    row [] b 183 o op.Invokespecial _ refl (
    row [] b 184 o op.Invokestatic _ refl (
    row [] b 187 o op.New _ refl (
    none_left (b ∷ []) o)))))))))))))))))))

wide_bytes : (b : ℕ) (o : Opcode) → wide_of b ≡ Some o → 0xc4 ∷ [] ++ b ∷ [] ≡ bytes_of o
wide_bytes b o = row (0xc4 ∷ []) b 25 o op.WideAload _ refl (row (0xc4 ∷ []) b 58 o op.WideAstore _ refl (none_left (0xc4 ∷ b ∷ []) o))

-- ---- the whole

later : (b : ℕ) (rest : List ℕ) → IsBytes (b ∷ rest) → IsBytes rest
later b rest are = λ i. are (suc i)

plain : (found : Option Opcode) (b : ℕ) (rest more : List ℕ) (i : Instruction) → opcode_of b ≡ found → IsBytes rest → with_opcode found rest ≡ Some (i, more) → Is (b ∷ rest) i more
unfolding with_opcode
plain None b rest more i f are e = absurd cc
plain (Some o) b rest more i f are e = behind (b ∷ []) o rest more i (opcode_bytes b o f) are (took o rest i more e)

wide : (found : Option Opcode) (b : ℕ) (rest more : List ℕ) (i : Instruction) → wide_of b ≡ found → IsBytes rest → with_opcode found rest ≡ Some (i, more) → Is (0xc4 ∷ b ∷ rest) i more
unfolding with_opcode
wide None b rest more i f are e = absurd cc
wide (Some o) b rest more i f are e = behind (0xc4 ∷ b ∷ []) o rest more i (wide_bytes b o f) are (took o rest i more e)

behind_it : (rest more : List ℕ) (i : Instruction) → IsBytes rest → behind_wide rest ≡ Some (i, more) → Is (0xc4 ∷ rest) i more
behind_it [] more i are e = absurd cc
behind_it (b ∷ rest) more i are e = wide (wide_of b) b rest more i refl (later b rest are) e

either : (t : Bool) (b : ℕ) (rest more : List ℕ) (i : Instruction) → (b == 0xc4) ≡ t → IsBytes rest → cond t (behind_wide rest) (with_opcode (opcode_of b) rest) ≡ Some (i, more) → Is (b ∷ rest) i more
either true b rest more i t are e = subst (λ n. Is (n ∷ rest) i more) (sym (eqb-true b 0xc4 t)) (behind_it rest more i are e)
either false b rest more i t are e = plain (opcode_of b) b rest more i refl are e

pub only : (bytes : List ℕ) (i : Instruction) (rest : List ℕ) → IsBytes bytes → decoded bytes ≡ Some (i, rest) → IsWhole i × (bytes ≡ encoded i ++ rest)
unfolding decoded
only [] i rest are e = absurd cc
only (b ∷ bytes) i rest are e = either (b == 0xc4) b bytes rest i refl (later b bytes are) e

-- the bytes of the instruction and those behind it are all
pub counted : (bytes : List ℕ) (i : Instruction) (rest : List ℕ) → IsBytes bytes → decoded bytes ≡ Some (i, rest) → size i.opcode + length rest ≡ length bytes
counted bytes i rest are e =
    let is = (only bytes i rest are e).1 in
    sym (ap length is ∙ length-append (encoded i) rest ∙ ap (λ n. n + length rest) (length_is i))

pub counted_by : {X : Type 0} → (view : X → Instruction × List ℕ) (bytes : List ℕ) (result : Option X) → IsBytes bytes → Gives view result (decoded bytes) → IfSome result (λ x. size (view x).0.opcode + length (view x).1 ≡ length bytes)
counted_by view bytes None are e = tt
counted_by view bytes (Some x) are e = counted bytes (view x).0 (view x).1 are e
