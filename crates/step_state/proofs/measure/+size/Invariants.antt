use Rattle.std.proofs.Common.{◌≡◌, ◌+◌, ◌≤◌, ◌^◌, ◌-◌, min, max, map, drop, sum}
use Rattle.item_types.specs.Measure.{cells, text_len, depth, greatest}
use Rattle.step_state.proofs.measure.+size.Given as goal

abbrev pub invariant-size_of_all-loop-value : goal.invariant-size_of_all-loop-value
invariant-size_of_all-loop-value l = record {
  cells_so_far : min (l.size.cells + sum (map cells (drop l.value-index l.values))) (2 ^ 64 - 1) ≡ min (sum (map cells l.values)) (2 ^ 64 - 1);
  text_so_far : min (l.size.text + sum (map text_len (drop l.value-index l.values))) (2 ^ 64 - 1) ≡ min (sum (map text_len l.values)) (2 ^ 64 - 1);
  depth_so_far : min (max l.size.depth (greatest (map depth (drop l.value-index l.values)))) (2 ^ 32 - 1) ≡ min (greatest (map depth l.values)) (2 ^ 32 - 1);
  cells_in : l.size.cells ≤ 2 ^ 64 - 1;
  text_in : l.size.text ≤ 2 ^ 64 - 1;
  depth_in : l.size.depth ≤ 2 ^ 32 - 1;
}
