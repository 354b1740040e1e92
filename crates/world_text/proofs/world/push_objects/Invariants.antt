use Rattle.std.proofs.Common.{◌≡◌, ◌++◌, drop, string_bytes}
use Rattle.world_text.specs.WorldText.{objects_text}
use Rattle.world_text.proofs.world.push_objects.Given as goal

abbrev pub invariant-loop-number : goal.invariant-loop-number
invariant-loop-number l =
    string_bytes l.out ++ objects_text l.names l.numbers l.world l.number-counter (drop l.number-counter l.order) ≡ string_bytes l.initial.out ++ objects_text l.names l.numbers l.world 0 l.order
