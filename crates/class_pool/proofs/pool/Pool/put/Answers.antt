use Rattle.std.proofs.Common.{◌≡◌, ◌+◌, ◌<◌, ◌++◌, ◌∷◌, [], List, length, rules, arith, refl, ap, ◌∙◌}
use Rattle.std.proofs.lemmas.Grind.{common_steps}
use Rattle.class_pool.specs.declared.entry.Entry.{Entry}
use Rattle.class_pool.proofs.Grows.{unchanged, known_at, grown_at, new_holds}
use Rattle.class_pool.proofs.pool.Pool.put.Goals as goal
use Rattle.class_pool.proofs.pool.Pool.put.Goals.{in-Ok, in-Err}

pub invariant_of-self : goal.invariant_of-self
invariant_of-self c = unchanged c.self.inside _ c.self.invariant c.in_err-push.ensures.items refl refl

pub invariant_of-self-then-is_some : goal.invariant_of-self-then-is_some
invariant_of-self-then-is_some c =
    let few : length c.self.inside.entries.items < 65534 = first_of (search rules, grind (arith, common_steps)) in
    known_at c.self.inside _ c.args.entry c.args.what.now c.args.self.now c.in_ok-known.known c.is_some.result c.self.view_is c.self.invariant c.in_ok-push.ensures.items refl refl few c.requires c.in_ok-known.ensures.least c.is_some.ensures c.if-is_some.true

pub returns-then-is_some-clause-holds : goal.returns-then-is_some-clause-holds
returns-then-is_some-clause-holds c =
    let grew : c.push.new.self.items ≡ c.args.self.now ++ c.args.entry ∷ [] = c.in_ok-push.ensures.items ∙ ap (λ (es : List Entry). es ++ c.args.entry ∷ []) c.self.view_is in
    let is : c.len-len.result + 1 ≡ length c.args.self.now + 1 = first_of (search rules, grind (arith, common_steps)) in
    new_holds c.args.self.now c.push.new.self.items c.args.entry c.args.what.now _ grew is c.requires

pub invariant_of-self-in-Ok : goal.invariant_of-self-in-Ok
invariant_of-self-in-Ok c =
    let few : length c.self.inside.entries.items < 65534 = first_of (search rules, grind (arith, common_steps)) in
    let value : c.len-len.result + 1 ≡ length c.self.inside.entries.items + 1 = first_of (search rules, grind (arith, common_steps)) in
    grown_at c.self.inside _ c.args.entry c.args.what.now c.args.self.now c.in_ok-known.known c.is_some.result c.in_ok-key.key (c.len-len.result + 1) c.self.view_is c.self.invariant c.in_ok-push.ensures.items refl c.in_ok-key.ensures.key value c.in-Ok.ensures.entries few c.in_ok-key.ensures.sound c.requires c.in_ok-known.ensures.least c.is_some.ensures c.if-is_some.false

pub invariant_of-self-in-Err : goal.invariant_of-self-in-Err
invariant_of-self-in-Err c =
    let same : c.truncate.new.self.items ≡ c.self.inside.entries.items = first_of (search rules, grind (arith, common_steps)) in
    let map : c.insert.new.self.entries ≡ c.self.inside.index.entries = first_of (search rules, grind (arith, common_steps)) in
    unchanged c.self.inside _ c.self.invariant same refl map

pub returns-clause-holds : goal.returns-clause-holds
returns-clause-holds c =
    let grew : c.push.new.self.items ≡ c.args.self.now ++ c.args.entry ∷ [] = c.in_ok-push.ensures.items ∙ ap (λ (es : List Entry). es ++ c.args.entry ∷ []) c.self.view_is in
    let is : c.len-len.result + 1 ≡ length c.args.self.now + 1 = first_of (search rules, grind (arith, common_steps)) in
    let h = new_holds c.args.self.now c.push.new.self.items c.args.entry c.args.what.now _ grew is c.requires in
    elim c.match-insert.branch [ in-Ok w ↦ rw (w.result-is, w.self-is) h | in-Err w ↦ rw w.result-is tt ]
