use Rattle.std.proofs.Common.{arith}
use Rattle.class_grammar.proofs.CallerLemmas.{told_spells, told_only, told_stuck, told_first}
use Rattle.class_reader.proofs.Valid.{valid_by}
use Rattle.class_reader.proofs.reading.read_class.Goals as goal

pub returns-clause-spells : goal.returns-clause-spells
returns-clause-spells c = told_spells c.args.bytes.now c.file.result (λ i. omega (arith, c.type_inv.bytes i)) c.file.ensures

pub returns-clause-valid : goal.returns-clause-valid
returns-clause-valid c = valid_by c.args.bytes.now c.file.result (told_spells c.args.bytes.now c.file.result (λ i. omega (arith, c.type_inv.bytes i)) c.file.ensures)

pub returns-clause-only : goal.returns-clause-only
returns-clause-only c = λ d s. told_only c.args.bytes.now c.file.result d c.file.ensures s

pub returns-clause-stuck : goal.returns-clause-stuck
returns-clause-stuck c = λ f e some. told_stuck c.args.bytes.now c.file.result f (λ i. omega (arith, c.type_inv.bytes i)) c.file.ensures e some

pub returns-clause-first : goal.returns-clause-first
returns-clause-first c = λ f s. told_first c.args.bytes.now c.file.result f (λ i. omega (arith, c.type_inv.bytes i)) c.file.ensures s
