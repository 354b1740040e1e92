use Rattle.std.proofs.Common.{◌<◌, length, arith}
use Rattle.build_state.proofs.Going.{PutsOne, goes_trans, put_goes, within}
use Rattle.build_state.proofs.state.BuildState.put_all.Goals as goal

pub loop-self-preserved : goal.loop-self-preserved
loop-self-preserved c =
    let here : c.args.step < length c.loop-self.self.slots = within c.args.step c.args.self.now c.loop-self.self c.stands.ensures.state c.loop-self.invariant.goes c.requires.range in
    let one : PutsOne c.args.step c.loop-self.self c.put.new.self = put_goes c.args.step c.loop-self.self c.put.new.self here c.loop-self.invariant.putting c.loop-self.invariant.going (omega (arith, c.puts_left.ensures, c.loop-self-test.true)) c.put.ensures in
    record {
      goes = goes_trans c.args.step c.args.self.now c.loop-self.self c.put.new.self c.loop-self.invariant.goes one.goes;
      going = one.going;
      putting = one.putting;
    }

pub loop-self-smaller : goal.loop-self-smaller
loop-self-smaller c =
    let here : c.args.step < length c.loop-self.self.slots = within c.args.step c.args.self.now c.loop-self.self c.stands.ensures.state c.loop-self.invariant.goes c.requires.range in
    let one : PutsOne c.args.step c.loop-self.self c.put.new.self = put_goes c.args.step c.loop-self.self c.put.new.self here c.loop-self.invariant.putting c.loop-self.invariant.going (omega (arith, c.puts_left.ensures, c.loop-self-test.true)) c.put.ensures in
    one.less
