-- Filling a pool from a universe.
use Rattle.std.proofs.Common.{◌≡◌, ℕ, zero, suc, ◌+◌, ◌*◌, ◌<◌, ◌≤◌, Bool, true, false, cond, List, [], ◌∷◌, ◌++◌, length, Option, Some, None, refl, sym, ap, subst, ◌∙◌, arith, length-append}
use Rattle.std.specs.List.{flat_map}
use Rattle.class_pool.specs.declared.entry.Entry.{Entry}
use Rattle.class_pool.specs.declared.shown.Shown.{Shown}
use Rattle.class_pool.specs.Showing.{Holds}
use Rattle.class_pool.specs.Enter.{enter}
use Rattle.class_code.specs.Opcodes.{size}
use Rattle.class_code.specs.Encoded.{encoded}
use Rattle.class_code.proofs.CallerLemmas.{length_is}
use Rattle.class_pool.specs.Growth.{ReferRight, Covered, Grows}
use Rattle.class_pool.specs.Growth.{left, one, Puts}
use Rattle.class_pool.specs.Enter.{Entered}
use Rattle.class_pool.proofs.CallerLemmas.{enters, grows_self, grows_then, size_one}
use Rattle.value_literals.specs.declared.op.Op.{Op}
use Rattle.value_literals.specs.declared.op.Op.TheVariants.{Plain, Naming}
use Rattle.class_pool.proofs.CallerLemmas.{holds_more}
use Rattle.value_literals.specs.Members.{op_size, ops_size, IsOp, IsCode}
use Rattle.value_literals.specs.Emitted.{Filling, only, then, then_with, joined, op_bytes, code_bytes}

abbrev pub Kept : Type 1
Kept = List Entry → Type 0

abbrev pub Stable : (List Entry → Type 0) → Type 0
Stable P = (es more : List Entry) → P es → P (es ++ more)

-- what is there and what is left to enter fits
abbrev pub Fits : List Shown → List Entry → Type 0
Fits us es = length es + left one 1 us es ≤ 65534

fits_then : (n : ℕ) (us : List Shown) (es fs : List Entry) → Grows n us es fs → Fits us es → Fits us fs
fits_then n us es fs g h = omega (arith, h, g.kept one 1, size_one es, size_one fs)

abbrev Enters : List Shown → Shown → List Entry → Entered → Type 0
Enters us w es o = (i : ℕ) × (fs : List Entry) × (o ≡ Some (i, fs)) × Holds fs i w × Grows 3 us es fs

enters_by : (us : List Shown) (w : Shown) (es : List Entry) (o : Entered) → Puts 3 us w es o → Fits us es → Enters us w es o
enters_by us w es None p fit = absurd (omega (arith, p, fit))
enters_by us w es (Some r) p fit = (r.0, r.1, refl, p.0, p.1)

pub op_more : (o : Op) (bytes : List ℕ) (es more : List Entry) → IsOp o bytes es → IsOp o bytes (es ++ more)
op_more (Plain o) bytes es more h = h
op_more (Naming o w) bytes es more h = (h.0, h.1, holds_more es more h.0 w h.2)

pub code_more : (ops : List Op) (bytes : List ℕ) (es more : List Entry) → IsCode ops bytes es → IsCode ops bytes (es ++ more)
code_more [] bytes es more h = h
code_more (o ∷ ops) bytes es more h = (h.0, h.1, h.2, op_more o h.0 es more h.3, code_more ops h.1 es more h.4)

module _ (us : List Shown) where
  -- where what is left fits, it gives a value, and the sum is kept
  abbrev pub Fills : {A : Type 0} → (List Entry → Type 0) → (A → List Entry → Type 0) → Filling A → Type 0
  Fills {A} Pre Post m = (es : List Entry) → Pre es → ReferRight es es → Fits us es → (a : A) × (fs : List Entry) × (m es ≡ Some (a, fs)) × Grows 3 us es fs × Post a fs

  pub fills_only : {A : Type 0} (Pre : List Entry → Type 0) (Post : A → List Entry → Type 0) (a : A) → ((es : List Entry) → Pre es → Post a es) → Fills Pre Post (only a)
  fills_only Pre Post a h es p b fit = (a, es, refl, grows_self 3 us es b, h es p)

  pub fills_then : {A B : Type 0} (Pre : List Entry → Type 0) (Mid : A → List Entry → Type 0) (Post : B → List Entry → Type 0) (m : Filling A) (f : A → Filling B) → Fills Pre Mid m → ((a : A) → Fills (Mid a) Post (f a)) → Fills Pre Post (then m f)
  fills_then Pre Mid Post m f h k es p b fit =
      let r = h es p b fit in
      let s = k r.0 r.1 r.4 r.3.refer (fits_then 3 us es r.1 r.3 fit) in
      (s.0, s.1, rw r.2 s.2, grows_then 3 us es r.1 s.1 r.3 s.3, s.4)

  stays : (P : List Entry → Type 0) (es fs : List Entry) → Stable P → Grows 3 us es fs → P es → P fs
  stays P es fs s g p = subst P (sym g.stays.1) (s es g.stays.0 p)

  pub fills_enter : (P : List Entry → Type 0) (w : Shown) → Stable P → Covered us w → Fills P (λ i fs. P fs × Holds fs i w) (enter w)
  fills_enter P w s c es p b fit =
      let r = enters_by us w es (enter w es) (enters us w es c b) fit in
      (r.0, r.1, r.2, r.4, (stays P es r.1 s r.4 p, r.3))

  -- ---- code

  abbrev pub OpIn : Op → Type 0
  OpIn (Plain o) = Unit {0}
  OpIn (Naming o w) = Covered us w

  abbrev pub OpsIn : List Op → Type 0
  OpsIn [] = Unit {0}
  OpsIn (o ∷ ops) = OpIn o × OpsIn ops

  pub ops_append : (ops more : List Op) → OpsIn ops → OpsIn more → OpsIn (ops ++ more)
  ops_append [] more h k = k
  ops_append (o ∷ ops) more h k = (h.0, ops_append ops more h.1 k)

  pub size_append : (ops more : List Op) → ops_size (ops ++ more) ≡ ops_size ops + ops_size more
  size_append [] more = omega arith
  size_append (o ∷ ops) more = omega (arith, size_append ops more)

  abbrev pub Done : (List Entry → Type 0) → List Op → List ℕ → List Entry → Type 0
  Done P ops bytes fs = P fs × (length bytes ≡ ops_size ops) × IsCode ops bytes fs

  abbrev Made : (List Entry → Type 0) → Op → List ℕ → List Entry → Type 0
  Made P o bytes fs = P fs × (length bytes ≡ op_size o) × IsOp o bytes fs

  fills_op : (P : List Entry → Type 0) (o : Op) → Stable P → OpIn o → Fills P (Made P o) (op_bytes o)
  fills_op P (Plain o) s c = fills_only P (Made P (Plain o)) (encoded (record { opcode = o; operand = 0 })) (λ es p. (p, length_is (record { opcode = o; operand = 0 }), refl))
  fills_op P (Naming o w) s c =
      fills_then P (λ i fs. P fs × Holds fs i w) (Made P (Naming o w)) (enter w) (λ i. only (encoded (record { opcode = o; operand = i }))) (fills_enter P w s c)
      (λ i. fills_only (λ fs. P fs × Holds fs i w) (Made P (Naming o w)) (encoded (record { opcode = o; operand = i })) (λ es p. (p.0, length_is (record { opcode = o; operand = i }), (i, refl, p.1))))

  made_stable : (P : List Entry → Type 0) (o : Op) (a : List ℕ) → Stable P → Stable (Made P o a)
  made_stable P o a s es more p = (s es more p.0, p.1, op_more o a es more p.2)

  pub fills_code : (P : List Entry → Type 0) (ops : List Op) → Stable P → OpsIn ops → Fills P (Done P ops) (code_bytes ops)
  fills_code P [] s c = fills_only P (Done P []) [] (λ es p. (p, refl, refl))
  fills_code P (o ∷ ops) s c =
      fills_then P (Made P o) (Done P (o ∷ ops)) (op_bytes o) (λ a. then (code_bytes ops) (λ rest. only (a ++ rest))) (fills_op P o s c.0)
      (λ a. fills_then (Made P o a) (Done (Made P o a) ops) (Done P (o ∷ ops)) (code_bytes ops) (λ rest. only (a ++ rest))
      (fills_code (Made P o a) ops (made_stable P o a s) c.1)
      (λ rest. fills_only (Done (Made P o a) ops rest) (Done P (o ∷ ops)) (a ++ rest) (λ es p. (p.0.0, omega (arith, p.0.1, p.1, length-append a rest), (a, rest, refl, p.0.2, p.2)))))
