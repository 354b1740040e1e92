use Rattle.std.proofs.Common.{◌≡◌, ◌+◌, ◌≤◌, drop, length, Ok}
use Rattle.std.specs.List.{flat_map}
use Rattle.ext_draft.specs.declared.draft.DraftExtension.{DraftExtension}
use Rattle.ext_parser.specs.SecondWalk.{then}
use Rattle.ext_parser.specs.ThirdWalk.{texts_at, texts_with}
use Rattle.ext_parser.proofs.third_walk.third_walk.Given as goal

-- what is left comes after the trees found so far
abbrev pub invariant-loop-index : goal.invariant-loop-index
invariant-loop-index l = record {
  rest :
      texts_at l.reading.names.now l.reading.items.now l.reading.on.now 0 0 l.extensions
      ≡ then (texts_at l.reading.names.now l.reading.items.now l.reading.on.now (length l.found.lists) l.index (drop l.index l.extensions)) (λ more. Ok (texts_with l.found more));
  few : length l.found.lists + length (flat_map (λ (e : DraftExtension). e.recorders) (drop l.index l.extensions)) ≤ 256;
}
