use Rattle.lang_grammar.proofs.Bodies.{within, alone, no_sentence}
use Rattle.lang_grammar.proofs.law.first_token.Goals as goal

pub returns-clause-within : goal.returns-clause-within
returns-clause-within c = within

pub returns-clause-alone : goal.returns-clause-alone
returns-clause-alone c = alone

pub returns-clause-none : goal.returns-clause-none
returns-clause-none c = no_sentence
