use Rattle.std.proofs.Common.{◌∙◌, ap, sym, ℕ, ◌+◌, List, ◌++◌, append-nil, length, drop, string_bytes, arith}
use Rattle.class_code.specs.Opcodes.{size}
use Rattle.std.proofs.lemmas.List.{append_assoc}
use Rattle.class_dump.specs.Dump.{code_lines, instruction_line}
use Rattle.class_dump.proofs.Lines.{next_line, last_line, no_lines}
use Rattle.class_dump.proofs.code.push_line.Goals as goal

pub returns-in_ok-push_instruction-in-Some-clause-line : goal.returns-in_ok-push_instruction-in-Some-clause-line
returns-in_ok-push_instruction-in-Some-clause-line c =
    let pc = c.args.pc in
    let bytes = c.args.bytes.now in
    let old = string_bytes c.args.out.now in
    let d = c.in-Some.instruction in
    let n = size d.opcode in
    let rest = code_lines 0 (pc + n) (drop n bytes) in
    ap (λ (k : ℕ). string_bytes c.push_instruction.new.out ++ code_lines 0 (pc + k) (drop k bytes)) c.size.ensures.size
    ∙ ap (λ (w : List ℕ). w ++ rest) c.in_ok-push_instruction-in-Some.ensures ∙ append_assoc old (instruction_line pc d) rest
    ∙ ap (λ (w : List ℕ). old ++ w) (sym (next_line pc bytes _ d c.in-Some.ensures.read (omega (arith, c.size.ensures.size, c.size.ensures.some)) (omega (arith, c.in-Some.ensures.size))))

pub returns-in_ok-push_bytes-in-None-clause-line : goal.returns-in_ok-push_bytes-in-None-clause-line
returns-in_ok-push_bytes-in-None-clause-line c =
    let pc = c.args.pc in
    let bytes = c.args.bytes.now in
    let old = string_bytes c.args.out.now in
    ap (λ (w : List ℕ). string_bytes c.push_bytes.new.out ++ w) (no_lines (pc + length bytes) bytes) ∙ append-nil (string_bytes c.push_bytes.new.out)
    ∙ c.in_ok-push_bytes-in-None.ensures ∙ ap (λ (w : List ℕ). old ++ w) (sym (last_line pc bytes c.in-None.ensures.read c.requires))
