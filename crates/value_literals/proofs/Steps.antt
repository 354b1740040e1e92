-- One more of several.
use Rattle.std.proofs.Common.{◌≡◌, ℕ, suc, ◌+◌, ◌-◌, ◌<◌, List, [], ◌∷◌, ◌++◌, Option, Some, None, refl, sym, ap, ◌∙◌, arith, append_assoc, length, drop, take, add-one, take_all, length-drop, ◌*◌, ◌≤◌}
use Rattle.item_types.specs.declared.decl.Names.{Names}
use Rattle.class_pool.specs.declared.class.Member.{Member}
use Rattle.recording_units.specs.declared.types.Piece.{Piece}
use Rattle.std.proofs.Math.Seq.{drop-cons}
use Rattle.value_literals.specs.Code.{object, objects}
use Rattle.class_pool.specs.declared.entry.Entry.{Entry}
use Rattle.class_code.specs.declared.opcode.Opcode.TheVariants as op
use Rattle.value_literals.specs.declared.op.Op.{Op}
use Rattle.value_literals.specs.declared.op.Op.TheVariants.{Plain, Naming}
use Rattle.std.specs.Prelude.{Result, Err}
use Rattle.class_pool.specs.declared.pool_err.PoolErr.{PoolErr}
use Rattle.class_pool.specs.declared.pool_err.PoolErr.TheVariants as err
use Rattle.value_literals.specs.Emitted.{Does, Appends, Filling, only, then, then_with, front, part, part_member, part_members, part_of, run_code}

pub next_run : (class : List ℕ) (j count : ℕ) (code after t : List Op) → j < count → after ≡ code ++ Plain op.Aload0 ∷ Naming op.Invokestatic (part_of class j) ∷ [] → code ++ run_code class j (count - j) ≡ t → after ++ run_code class (j + 1) (count - (j + 1)) ≡ t
next_run class j count code after t lt is e =
    let z : count - j ≡ suc (count - (j + 1)) = omega (arith, lt) in
    rw is (append_assoc code (Plain op.Aload0 ∷ Naming op.Invokestatic (part_of class j) ∷ []) (run_code class (j + 1) (count - (j + 1))) ∙ (ap (λ n. code ++ run_code class j n) (sym z) ∙ e))

-- what was filled goes before the rest
front_front : {A : Type 0} (a b : List A) (o : Option (List A × List Entry)) → front (a ++ b) o ≡ front a (front b o)
front_front a b None = refl
front_front {A} a b (Some r) = ap (λ (x : List A). some_of x r.1) (append_assoc a b r.0)
  where
    some_of : List A → List Entry → Option (List A × List Entry)
    some_of x es = Some (x, es)

pub next_param : (ps : List (List ℕ)) (i : ℕ) (out after t : List ℕ) → i < length ps → after ≡ out ++ object → out ++ objects (drop i ps) ≡ t → after ++ objects (drop (i + 1) ps) ≡ t
next_param ps i out after t lt is e =
    let k : out ++ (object ++ objects (drop (suc i) ps)) ≡ t = rw (drop-cons ps i [] lt) at e in
    rw (is, add-one) (append_assoc out object (objects (drop (suc i) ps)) ∙ k)

-- a part that is the last
pub part_last : (us : List Piece) (j : ℕ) → length (drop (200 * j) us) < 200 → take 200 (drop (200 * j) us) ≡ drop (200 * j) us
part_last us j few = take_all 200 (drop (200 * j) us) (omega (arith, few))

pub front_next : {A : Type 0} (before : List A) (a : A) (o : Option (List A × List Entry)) → front before (then_with o (λ rest. only (a ∷ rest))) ≡ front (before ++ a ∷ []) o
front_next before a None = refl
front_next {A} before a (Some r) = ap (λ (x : List A). pair x r.1) (sym (append_assoc before (a ∷ []) r.0))
  where
    pair : List A → List Entry → Option (List A × List Entry)
    pair x es = Some (x, es)

pub next_part : (names : Names) (class : List ℕ) (us : List Piece) (j count : ℕ) (es fs : List Entry) (m : Member) (out after : List Member) (t : Option (List Member × List Entry)) → j < count → part_member names class us j es ≡ Some (m, fs) → after ≡ out ++ m ∷ [] →
    front out (part_members names class us j (count - j) es) ≡ t → front after (part_members names class us (j + 1) (count - (j + 1)) fs) ≡ t
next_part names class us j count es fs m out after t lt is new e =
    let z : count - j ≡ suc (count - (j + 1)) = omega (arith, lt) in
    let e' : front out (part_members names class us j (suc (count - (j + 1))) es) ≡ t = ap (λ n. front out (part_members names class us j n es)) (sym z) ∙ e in
    rw new (sym (front_next out m (part_members names class us (j + 1) (count - (j + 1)) fs)) ∙ rw is at e')

pub full_part : (names : Names) (class : List ℕ) (us : List Piece) (j count : ℕ) (es : List Entry) (out : List Member) (t : Option (List Member × List Entry)) → j < count → part_member names class us j es ≡ None →
    front out (part_members names class us j (count - j) es) ≡ t → t ≡ None
full_part names class us j count es out t lt is e =
    let z : count - j ≡ suc (count - (j + 1)) = omega (arith, lt) in
    let e' : front out (part_members names class us j (suc (count - (j + 1))) es) ≡ t = ap (λ n. front out (part_members names class us j n es)) (sym z) ∙ e in
    sym (rw is at e')

pub not_both : {A : Type 0} (o : Option A) (a : A) → o ≡ Some a → o ≡ None → ⊥
not_both None a e f = absurd cc
not_both (Some b) a e f = absurd cc

front_none : {A : Type 0} (before : List A) (o : Option (List A × List Entry)) → front before o ≡ None → o ≡ None
front_none before None e = refl
front_none before (Some r) e = absurd cc

-- a step that was refused
pub refused : {A B : Type 0} (outcome : Option (List A × List Entry)) (step : Option (B × List Entry)) (fault : PoolErr) (before after : List A) (new : List Entry) → (step ≡ None → front before outcome ≡ None) → Does step (Err fault) new → Appends outcome (Err fault) before after new
refused outcome step err.Full before after new h e = front_none before outcome (h e)
refused outcome step err.Memory before after new h e = tt
