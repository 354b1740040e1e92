-- What bytes spell is valid: the whole class.
use Rattle.std.proofs.Common.{◌≡◌, ℕ, ◌+◌, ◌<◌, ◌≤◌, Bool, true, false, ◌&&◌, ◌||◌, not, cond, List, ◌++◌, length, Some, None, refl, sym, ap, subst, ◌∙◌, arith}
use Rattle.std.specs.Prelude.{nat_lt, ◌==◌}
use Rattle.std.specs.Int.{w16}
use Rattle.std.proofs.lemmas.Bool.Decides.{nat_tests}
use Rattle.class_pool.specs.Entries.{entry_at, is_class}
use Rattle.class_pool.specs.declared.class.Class.{Class}
use Rattle.class_grammar.specs.Layout.{number, Turned}
use Rattle.class_grammar.specs.Grammar as grammar
use Rattle.class_grammar.specs.Valid.{IsValid}
use Rattle.class_valid.proofs.Joined.{checked_value}
use Rattle.class_valid.proofs.Pools.{passed_test}
use Rattle.class_valid.proofs.Kept.{small_of, checked16, interfaces_kept, fields_kept, methods_kept, raws_kept}
use Rattle.class_valid.proofs.PoolKept.{pool_kept}

record IsMajor (n : ℕ) : Type 0 where
  least : 49 ≤ n
  most : n ≤ 65

major_by : (a : Bool) (n : ℕ) → (a && not (nat_lt n 49) && nat_lt n 66) ≡ true → IsMajor n
major_by true n e = record { least = grind (arith, nat_tests, e); most = grind (arith, nat_tests, e) }
major_by false n e = absurd cc

version_kept : (major : ℕ) (bytes : List ℕ) → grammar.version.Spells major bytes → IsMajor major
unfolding grammar.version
version_kept major bytes h =
    subst IsMajor (checked_value _ h.second.value major h.second.is) (major_by (h.value == 0) h.second.value (passed_test _ h.second.value major h.second.is))

pub valid_only : (c : Class) (bytes : List ℕ) → grammar.Spells bytes c → IsValid c
unfolding grammar.class
valid_only c bytes h =
    let v = h.second in let p = v.second in let f = p.second in let t = f.second in let q = t.second in let i = q.second in let s = i.second in let m = s.second in let a = m.second in
    let es = p.value in
    let major = version_kept v.value v.front v.first in
    let faces = interfaces_kept es i.value i.front i.first in
    let slots = fields_kept es s.value s.front s.first in
    let calls = methods_kept es m.value m.front m.first in
    let others = raws_kept es a.value a.front a.first in
    subst IsValid (sym a.second.is)
    (record {
      least_major = major.least;
      most_major = major.most;
      pool = pool_kept es p.front p.first;
      flags = small_of f.value f.front f.first;
      this = checked16 (λ n. is_class (entry_at es n)) t.value t.front t.first;
      parent = checked16 (λ n. n == 0 || is_class (entry_at es n)) q.value q.front q.first;
      interfaces = faces.1;
      few_interfaces = faces.0;
      fields = slots.1;
      few_fields = slots.0;
      methods = calls.1;
      few_methods = calls.0;
      raws = others.1;
      few_raws = others.0;
    })
