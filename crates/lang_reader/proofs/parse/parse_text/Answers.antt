use Rattle.lang_grammar.proofs.CallerLemmas.{sentence, only, stuck, first}
use Rattle.lang_reader.proofs.parse.parse_text.Goals as goal

pub returns-clause-sentence : goal.returns-clause-sentence
returns-clause-sentence c = sentence c.args.step c.args.names.now c.args.text.now c.read_text-answer.result c.read_text-answer.ensures

pub returns-clause-only : goal.returns-clause-only
returns-clause-only c = only c.args.step c.args.names.now c.args.text.now c.read_text-answer.result c.read_text-answer.ensures

pub returns-clause-stuck : goal.returns-clause-stuck
returns-clause-stuck c = stuck c.args.step c.args.names.now c.args.text.now c.read_text-answer.result c.read_text-answer.ensures

pub returns-clause-first : goal.returns-clause-first
returns-clause-first c = first c.args.step c.args.names.now c.args.text.now c.read_text-answer.result c.read_text-answer.ensures
