use Rattle.std.proofs.Common.{◌≡◌, ◌-◌, List, subst, sym, ◌∙◌, ap}
use Rattle.std.specs.Prelude.{Result, Ok, Err}
use Rattle.class_pool.specs.declared.entry.Entry.{Entry}
use Rattle.class_pool.specs.declared.class.Member.{Member}
use Rattle.class_pool.specs.declared.pool_err.PoolErr.{PoolErr}
use Rattle.value_literals.specs.Emitted.{Does, Appends, part_member, part_members}
use Rattle.value_literals.proofs.Steps.{next_part, full_part, refused}
use Rattle.value_literals.proofs.member.part_members.Goals as goal

pub returns-in-Err : goal.returns-in-Err
returns-in-Err c =
    let names = c.args.names.now in
    let class = c.args.class.now in
    let us = c.args.units.now in
    let step = part_member names class us c.loop-j.j c.loop-j.pool in
    refused (part_members names class us 0 c.args.count c.args.pool.now) step c.in-Err.fault c.args.out.now c.loop-j.out c.part_member.new.pool
    (λ none. full_part names class us c.loop-j.j c.args.count c.loop-j.pool c.loop-j.out _ c.loop-j-test.true none c.loop-j.invariant)
    (subst (λ (r : Result Member PoolErr). Does step r c.part_member.new.pool) c.in-Err.is c.part_member.ensures)

pub loop-j-preserved : goal.loop-j-preserved
loop-j-preserved c =
    let names = c.args.names.now in
    let class = c.args.class.now in
    let us = c.args.units.now in
    let step = part_member names class us c.loop-j.j c.loop-j.pool in
    next_part names class us c.loop-j.j c.args.count c.loop-j.pool c.part_member.new.pool c.in-Ok.member c.loop-j.out c.push.new.self _ c.loop-j-test.true
    (subst (λ (r : Result Member PoolErr). Does step r c.part_member.new.pool) c.in-Ok.is c.part_member.ensures) (c.in_ok-push-in-Ok.ensures.ok) c.loop-j.invariant
