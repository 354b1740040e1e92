use Rattle.name_directory.proofs.Found.{noted_more}
use Rattle.name_directory.proofs.places.places_of.Goals as goal

pub loop-index-preserved : goal.loop-index-preserved
loop-index-preserved g c =
    noted_more g.M.Named.named c.args.things.now c.loop-index.index c.index-things-index.result c.named.result.now c.loop-index.places c.note.new.places
    c.loop-index-test.true c.index-things-index.is c.named.ensures c.loop-index.invariant c.in_ok-note.ensures
