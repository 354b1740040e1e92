use Rattle.std.proofs.Common.{◌∙◌}
use Rattle.aug_base.proofs.Places.{settled_back, settled_last}
use Rattle.aug_base.proofs.mem_shelf.settle.Goals as goal

pub loop-file-preserved : goal.loop-file-preserved
loop-file-preserved c =
    settled_last c.loop-file.given.items c.pop.new.self.items c.in-Some.file _ _ c.in-Some.ensures.items c.in_default-put.ensures.ok ∙ c.loop-file.invariant

pub returns-in-Err-clause-same : goal.returns-in-Err-clause-same
returns-in-Err-clause-same c =
    settled_back c.loop-file.given.items c.pop.new.self.items _ c.in-Some.file c.in-Err.file _ _ c.in-Some.ensures.items c.in-Err.ensures.back c.put_back.ensures c.in-Err.ensures.err
    ∙ c.loop-file.invariant
