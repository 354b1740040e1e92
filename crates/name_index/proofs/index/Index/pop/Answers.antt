use Rattle.std.proofs.Common.{◌≡◌, length}
use Rattle.name_index.proofs.Places.{popped}
use Rattle.name_index.proofs.index.Index.pop.Goals as goal

pub invariant_of-self : goal.invariant_of-self
invariant_of-self c =
    let long : c.len.result ≡ length c.pop.new.self.items = cc in
    popped c.self.inside.places c.take_back.new.places c.pop.new.self.items c.self.inside.names.items c.in-Some.name c.len.result c.self.invariant long c.in-Some.ensures.items c.take_back.ensures
