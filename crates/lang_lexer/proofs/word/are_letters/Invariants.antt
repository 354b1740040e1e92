use Rattle.std.proofs.Common.{◌≡◌, length, take}
use Rattle.lang_lexer.proofs.word.are_letters.Given as goal

abbrev pub invariant-loop-i : goal.invariant-loop-i
invariant-loop-i l = (length l.word ≡ length l.letters) × (take l.i l.word ≡ take l.i l.letters)
