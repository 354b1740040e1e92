-- What spells a class is the class's bytes.
use Rattle.std.proofs.Common.{◌≡◌, ℕ, ◌+◌, ◌-◌, ◌&&◌, Bool, true, false, cond, eqb, List, ◌++◌, Some, None, refl, sym, ap, subst, ◌∙◌, append_assoc}
use Rattle.std.specs.Prelude.{IfOk, Result, Ok, Err}
use Rattle.std.proofs.lemmas.Bool.{eqb-true}
use Rattle.class_pool.specs.declared.class.Class.{Class}
use Rattle.class_grammar.specs.Grammar as grammar
use Rattle.class_grammar.specs.Grammar.{class, version}
use Rattle.class_grammar.specs.Bytes.{u2, u4, pool_bytes, attributes_bytes, members_bytes, interfaces_bytes, class_bytes}
use Rattle.class_valid.proofs.Joined.{n16, n32, join, end, t16}
use Rattle.class_valid.proofs.Attributes.{raws_spelled}
use Rattle.class_valid.proofs.Members.{interfaces_spelled, fields_spelled, methods_spelled}
use Rattle.class_valid.proofs.Pools.{passed_test, pool_spelled}

magic_test : (b : Bool) (u : Unit {0}) → cond b (Some tt) None ≡ Some u → b ≡ true
magic_test true u e = refl
magic_test false u e = absurd cc

first_true : (a b c : Bool) → (a && b && c) ≡ true → a ≡ true
first_true true b c e = refl
first_true false b c e = absurd cc

magic_value : (n : ℕ) (u : Unit {0}) → cond (eqb n 0xcafe_babe) (Some tt) None ≡ Some u → n ≡ 0xcafe_babe
magic_value n u e = eqb-true n 0xcafe_babe (magic_test _ u e)

magic_spelled : (u : Unit {0}) (bytes : List ℕ) → grammar.magic.Spells u bytes → bytes ≡ u4 0xcafe_babe
magic_spelled u bytes h = n32 h.value bytes h.first ∙ ap u4 (magic_value h.value u h.is)

version_spelled : (major : ℕ) (bytes : List ℕ) → version.Spells major bytes → bytes ≡ u2 0 ++ u2 major
unfolding version
version_spelled major bytes h =
    let test = passed_test _ h.second.value major h.second.is in
    let zero_is : h.value ≡ 0 = eqb-true h.value 0 (first_true _ _ _ test) in
    join h (u2 0) (u2 major) (n16 h.value h.front h.first ∙ ap u2 zero_is) (t16 _ major h.back h.second)

-- What spells a class is the class's bytes.
pub class_spelled : (c : Class) (bytes : List ℕ) → class.Spells c bytes → bytes ≡ class_bytes c
unfolding class
class_spelled c bytes h =
    let v = h.second in let p = v.second in let f = p.second in let t = f.second in let q = t.second in let i = q.second in let s = i.second in let m = s.second in let a = m.second in
    let after_m : List ℕ = attributes_bytes a.value in
    let after_s : List ℕ = members_bytes m.value ++ after_m in
    let after_i : List ℕ = members_bytes s.value ++ after_s in
    let after_q : List ℕ = interfaces_bytes i.value ++ after_i in
    let after_t : List ℕ = u2 q.value ++ after_q in
    let after_f : List ℕ = u2 t.value ++ after_t in
    let after_p : List ℕ = u2 f.value ++ after_f in
    let after_v : List ℕ = pool_bytes p.value ++ after_p in
    let r10 : m.back ≡ after_m = end a after_m (raws_spelled p.value a.value a.front a.first) a.second.none in
    let r9 : s.back ≡ after_s = join m (members_bytes m.value) after_m (methods_spelled p.value m.value m.front m.first) r10 in
    let r8 : i.back ≡ after_i = join s (members_bytes s.value) after_s (fields_spelled p.value s.value s.front s.first) r9 in
    let r7 : q.back ≡ after_q = join i (interfaces_bytes i.value) after_i (interfaces_spelled p.value i.value i.front i.first) r8 in
    let r6 : t.back ≡ after_t = join q (u2 q.value) after_q (t16 _ q.value q.front q.first) r7 in
    let r5 : f.back ≡ after_f = join t (u2 t.value) after_t (t16 _ t.value t.front t.first) r6 in
    let r4 : p.back ≡ after_p = join f (u2 f.value) after_f (n16 f.value f.front f.first) r5 in
    let r3 : v.back ≡ after_v = join p (pool_bytes p.value) after_p (pool_spelled p.value p.front p.first) r4 in
    let r2 = join v (u2 0 ++ u2 v.value) after_v (version_spelled v.value v.front v.first) r3 in
    let r1 = join h (u4 0xcafe_babe) ((u2 0 ++ u2 v.value) ++ after_v) (magic_spelled h.value h.front h.first) r2 in
    let all = r1 ∙ ap (λ (w : List ℕ). u4 0xcafe_babe ++ w) (append_assoc (u2 0) (u2 v.value) after_v) in
    all ∙ ap class_bytes (sym a.second.is)

pub written : (c : Class) (b : List ℕ) → (bytes : List ℕ) × class.Spells c bytes → b ≡ class_bytes c → class.Spells c b
written c b valid e = subst (class.Spells c) (class_spelled c valid.0 valid.1 ∙ sym e) valid.1

pub written_by : {X : Type 0} (c : Class) (r : Result (List ℕ) X) → (bytes : List ℕ) × class.Spells c bytes → IfOk r (λ b. b ≡ class_bytes c) → IfOk r (λ b. class.Spells c b)
written_by c (Ok b) valid e = written c b valid e
written_by c (Err x) valid e = tt

pub one_list : (c : Class) (xs ys : List ℕ) → class.Spells c xs → class.Spells c ys → xs ≡ ys
one_list c xs ys s t = class_spelled c xs s ∙ sym (class_spelled c ys t)
