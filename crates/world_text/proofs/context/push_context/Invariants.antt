use Rattle.std.proofs.Common.{◌≡◌, ◌++◌, drop, string_bytes}
use Rattle.world_text.specs.WorldText.{context_text}
use Rattle.world_text.proofs.context.push_context.Given as goal

abbrev pub invariant-loop-pair : goal.invariant-loop-pair
invariant-loop-pair l = string_bytes l.out ++ context_text l.numbers (drop l.pair-index l.pairs) ≡ string_bytes l.initial.out ++ context_text l.numbers l.pairs
