use Rattle.std.proofs.Common.{◌≡◌, length}
use Rattle.name_index.proofs.Places.{pushed}
use Rattle.name_index.proofs.index.Index.push.Goals as goal

pub invariant_of-self-in-Ok-note : goal.invariant_of-self-in-Ok-note
invariant_of-self-in-Ok-note c =
    let long : c.len-place.result ≡ length c.self.inside.names.items = cc in
    pushed c.self.inside.places c.note.new.places c.self.inside.names.items c.push.new.self.items c.args.name c.len-place.result c.self.invariant long c.in-Ok.ensures.items c.in-Ok-note.ensures.ok
