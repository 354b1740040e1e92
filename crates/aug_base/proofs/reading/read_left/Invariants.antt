use Rattle.std.proofs.Common.{◌≤◌, ◌≡◌, ◌-◌, ◌++◌, option_map, vec_len}
use Rattle.aug_base.proofs.reading.read_left.Given as goal

-- what was found, and then what is left, is what was left at first
abbrev pub invariant-loop-buffer : goal.invariant-loop-buffer
invariant-loop-buffer g l =
    let first = g.S.System.state l.initial.system in
    let now = g.S.System.state l.system in
    record {
      within : vec_len l.found ≤ l.limit;
      later : first.faults ≤ now.faults;
      files : now.files ≡ first.files;
      bytes : first.left ≡ option_map (λ rest. l.found.items ++ rest) now.left;
    }

abbrev pub decreases-loop-buffer : goal.decreases-loop-buffer
decreases-loop-buffer g l = l.limit - vec_len l.found
