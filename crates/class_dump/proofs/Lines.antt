-- The lines of a code, from one instruction to the next.
use Rattle.std.proofs.Common.{◌≡◌, ℕ, zero, suc, ◌+◌, ◌-◌, ◌≤◌, List, [], ◌∷◌, ◌++◌, length, drop, Some, None, refl, ap, sym, ◌∙◌, append-nil, arith}
use Rattle.std.proofs.lemmas.List.{drop_all}
use Rattle.class_code.specs.declared.instruction.Instruction.{Instruction}
use Rattle.class_dump.specs.Dump.{code_lines, instruction_line, bytes_line}
use Rattle.class_code.specs.Opcodes.{size}
use Rattle.class_code.specs.Encoded.{decoded}

skip : (k pc : ℕ) (bytes : List ℕ) → k ≤ length bytes → code_lines k pc bytes ≡ code_lines 0 (pc + k) (drop k bytes)
unfolding code_lines
skip zero pc bytes le = ap (λ (n : ℕ). code_lines 0 n bytes) (omega arith)
skip (suc k) pc [] le = absurd (omega (arith, le))
skip (suc k) pc (b ∷ bytes) le = skip k (pc + 1) bytes (omega (arith, le)) ∙ ap (λ (n : ℕ). code_lines 0 n (drop k bytes)) (omega arith)

pred_drop : (n : ℕ) (b : ℕ) (bytes : List ℕ) → 1 ≤ n → drop (n - 1) bytes ≡ drop n (b ∷ bytes)
pred_drop zero b bytes le = absurd (omega (arith, le))
pred_drop (suc n) b bytes le = ap (λ (k : ℕ). drop k bytes) (omega arith)

-- an instruction has its line, and the lines of what is behind it follow
pub next_line : (pc : ℕ) (bytes more : List ℕ) (d : Instruction) → decoded bytes ≡ Some (d, more) → 1 ≤ size d.opcode → size d.opcode ≤ length bytes
    → code_lines 0 pc bytes ≡ instruction_line pc d ++ code_lines 0 (pc + size d.opcode) (drop (size d.opcode) bytes)
unfolding code_lines
next_line pc [] more d e some le = absurd (omega (arith, some, le))
next_line pc (b ∷ bytes) more d e some le =
    let n = size d.opcode in
    rw (e, code_lines) (ap (λ (w : List ℕ). instruction_line pc d ++ w) (skip (n - 1) (pc + 1) bytes (omega (arith, some, le)) ∙ ap (λ (k : ℕ). code_lines 0 k (drop (n - 1) bytes)) (omega (arith, some)) ∙ ap (code_lines 0 (pc + n)) (pred_drop n b bytes some)))

-- the rest has one line
pub last_line : (pc : ℕ) (bytes : List ℕ) → decoded bytes ≡ None → 1 ≤ length bytes → code_lines 0 pc bytes ≡ bytes_line pc bytes
unfolding code_lines
last_line pc [] e some = absurd (omega (arith, some))
last_line pc (b ∷ bytes) e some = rw (e, code_lines) refl

pub no_lines : (pc : ℕ) (bytes : List ℕ) → code_lines 0 pc (drop (length bytes) bytes) ≡ []
unfolding code_lines
no_lines pc bytes = ap (code_lines 0 pc) (drop_all (length bytes) bytes (omega arith))

pub ended : (out before : List ℕ) (pc : ℕ) (rest : List ℕ) → length rest ≡ 0 → out ++ code_lines 0 pc rest ≡ before → out ≡ before
unfolding code_lines
ended out before pc [] none is = sym (append-nil out) ∙ is
ended out before pc (b ∷ rest) none is = absurd (omega (arith, none))
