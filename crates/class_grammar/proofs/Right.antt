-- Reading is right for a layout: it gives what the bytes spell, and the fault where they are stuck.
use Rattle.std.proofs.Common.{◌≡◌, ℕ, zero, suc, ◌+◌, ◌%◌, ◌^◌, ◌<◌, ◌≤◌, Bool, true, false, cond, ltb, List, [], ◌∷◌, ◌++◌, length, take, drop, Option, Some, None, Ok, Err, refl, sym, ap, subst, ◌∙◌, arith, append_assoc, length-append}
use Rattle.std.specs.Int.{Width, w8, w16, w32, byte_len, from_be_bytes, to_be_bytes}
use Rattle.std.proofs.lemmas.Bool.{ltb-false, ltb-true, le-ltb, lt-ltb, cases_lt}
use Rattle.std.proofs.lemmas.List.{append-nil, take_at, drop_at, take-append-drop, length-take, get_or-drop, get_or-take, get_or_past}
use Rattle.std.proofs.lemmas.Nat.{be_bytes_2, be_bytes_4, from_be_bytes-to_be_bytes_2, from_be_bytes-to_be_bytes_4}
use Rattle.std.proofs.Common.{inl, inr}
use Rattle.class_pool.specs.declared.fault.ClassFault.{ClassFault}
use Rattle.class_pool.specs.declared.fault.ClassFault.TheVariants as fault
use Rattle.class_grammar.specs.Layout.{IsBytes, Place, place, Outcome, Layout, SpellsNumber, IsShort, read_number, number, SpellsRun, read_run, run, SpellsNothing, pure, refused, Both, StuckIn, in_first, in_second, and_then, ◌>>=◌, Chosen, yes, no, StuckChosen, yes_stuck, no_stuck, choose, Turned, StuckTurned, in_value, wrong, turn, turned_by, turned, Inside, StuckInside, cut, unfilled, filled, inside_by, inside, many}

pub record Takes {A : Type 0} (L : Layout A) (p : Place) (x : A) (q : Place) : Type 0 where
  pub front : List ℕ
  pub spells : L.Spells x front
  pub parts : p.rest ≡ front ++ q.rest
  pub at_is : q.at ≡ p.at + length front

pub record Right {A : Type 0} (L : Layout A) : Type 0 where
  pub takes : (p q : Place) (x : A) → IsBytes p.rest → L.read p ≡ Ok (x, q) → Takes L p x q
  pub again : (at : ℕ) (front rest : List ℕ) (x : A) → L.Spells x front → L.read (place at (front ++ rest)) ≡ Ok (x, place (at + length front) rest)
  pub sticks : (p : Place) (f : ClassFault) → IsBytes p.rest → L.read p ≡ Err f → L.Stuck p.at p.rest f
  pub stuck : (at : ℕ) (rest : List ℕ) (f : ClassFault) → IsBytes rest → L.Stuck at rest f → L.read (place at rest) ≡ Err f

-- ---- places and bytes

abbrev pub ok_at : {A : Type 0} → A → Place → Outcome A
ok_at x p = Ok (x, p)

abbrev pub err : {A : Type 0} → ClassFault → Outcome A
err f = Err f

abbrev pub with_place : {A : Type 0} → A → Place → A × Place
with_place x p = (x, p)

pub value_is : {A : Type 0} (x y : A) (p q : Place) → ok_at x p ≡ ok_at y q → x ≡ y
value_is {A} x y p q e = let k : with_place x p ≡ with_place y q = cc in ap (λ (r : A × Place). r.0) k

pub same_place : (at to : ℕ) (rest : List ℕ) → at ≡ to → place at rest ≡ place to rest
same_place at to rest e = ap (λ (n : ℕ). place n rest) e

pub IsBytes-behind : (front rest : List ℕ) → IsBytes (front ++ rest) → IsBytes rest
IsBytes-behind [] rest h = h
IsBytes-behind (b ∷ bs) rest h = IsBytes-behind bs rest (λ i. h (suc i))

pub IsBytes-front : (front rest : List ℕ) → IsBytes (front ++ rest) → IsBytes front
IsBytes-front [] rest h i = omega arith
IsBytes-front (b ∷ bs) rest h zero = h 0
IsBytes-front (b ∷ bs) rest h (suc i) = IsBytes-front bs rest (λ j. h (suc j)) i

IsBytes-drop : (n : ℕ) (bytes : List ℕ) → IsBytes bytes → IsBytes (drop n bytes)
IsBytes-drop n bytes h i = rw get_or-drop (h (n + i))

IsBytes-take : (n : ℕ) (bytes : List ℕ) → IsBytes bytes → IsBytes (take n bytes)
IsBytes-take n bytes h i =
    elim (cases_lt i n) [
      | inl lt ↦ rw (get_or-take n bytes i 0 lt) (h i)
      | inr le ↦ rw (get_or_past (take n bytes) i 0 (omega (arith, length-take n bytes))) (omega arith)
    ]

-- ---- numbers

pub record IsWide (w : Width) : Type 0 where
  pub len : (n : ℕ) → length (to_be_bytes w n) ≡ byte_len w
  pub back : (bytes : List ℕ) → length bytes ≡ byte_len w → IsBytes bytes → to_be_bytes w (from_be_bytes w bytes) ≡ bytes
  pub again : (n : ℕ) → n < 256 ^ byte_len w → from_be_bytes w (to_be_bytes w n) ≡ n
  pub below : (bytes : List ℕ) → IsBytes bytes → from_be_bytes w bytes < 256 ^ byte_len w

back_8 : (bytes : List ℕ) → length bytes ≡ 1 → IsBytes bytes → to_be_bytes w8 (from_be_bytes w8 bytes) ≡ bytes
back_8 [] e h = absurd (omega (arith, e))
back_8 (b ∷ []) e h = let k : from_be_bytes w8 (b ∷ []) % 256 ≡ b = omega (arith, h 0) in ap (λ (x : ℕ). x ∷ []) k
back_8 (b ∷ c ∷ bs) e h = absurd (omega (arith, e))

pub wide8 : IsWide w8
wide8 = record { len = λ n. refl; back = back_8; again = λ n lt. omega (arith, lt); below = λ bytes fits. omega (arith, fits 0) }

pub wide16 : IsWide w16
wide16 = record { len = λ n. refl; back = λ bytes len fits. be_bytes_2 bytes _ len fits refl; again = λ n lt. from_be_bytes-to_be_bytes_2 n lt; below = λ bytes fits. omega (arith, fits 0, fits 1) }

pub wide32 : IsWide w32
wide32 = record { len = λ n. refl; back = λ bytes len fits. be_bytes_4 bytes _ len fits refl; again = λ n lt. from_be_bytes-to_be_bytes_4 n lt; below = λ bytes fits. omega (arith, fits 0, fits 1, fits 2, fits 3) }

-- a test for a cut that was passed, or that was not
passed : {A : Type 0} (b : Bool) (f : ClassFault) (x y : A) (p q : Place) → cond b (err f) (ok_at x p) ≡ ok_at y q → (b ≡ false) × (with_place x p ≡ with_place y q)
passed true f x y p q e = absurd cc
passed false f x y p q e = (refl, cc)

failed : {A : Type 0} (b : Bool) (f g : ClassFault) (x : A) (p : Place) → cond b (err f) (ok_at x p) ≡ err g → (b ≡ true) × (f ≡ g)
failed true f g x p e = (refl, cc)
failed false f g x p e = absurd cc

number_takes : (w : Width) → IsWide w → (p q : Place) (n : ℕ) → IsBytes p.rest → read_number w p ≡ Ok (n, q) → Takes (number w) p n q
unfolding read_number
number_takes w wide p q n fits e =
    let len = byte_len w in
    let g = passed (ltb (length p.rest) len) (fault.Short p.at) (from_be_bytes w (take len p.rest)) n (place (p.at + len) (drop len p.rest)) q e in
    let long : len ≤ length p.rest = ltb-false _ _ g.0 in
    let taken : length (take len p.rest) ≡ len = omega (arith, length-take len p.rest) in
    let front : to_be_bytes w (from_be_bytes w (take len p.rest)) ≡ take len p.rest = wide.back (take len p.rest) taken (IsBytes-take len p.rest fits) in
    subst (λ (r : ℕ × Place). Takes (number w) p r.0 r.1) g.1 (record {
      front = take len p.rest;
      spells = record { fits = wide.below (take len p.rest) (IsBytes-take len p.rest fits); bytes_are = sym front };
      parts = sym (take-append-drop len p.rest);
      at_is = ap (λ (k : ℕ). p.at + k) (sym taken);
    })

number_again : (w : Width) → IsWide w → (at : ℕ) (front rest : List ℕ) (n : ℕ) → SpellsNumber w n front → read_number w (place at (front ++ rest)) ≡ Ok (n, place (at + length front) rest)
unfolding read_number
number_again w wide at front rest n s =
    let len : length front ≡ byte_len w = ap length s.bytes_are ∙ wide.len n in
    let long : ltb (length (front ++ rest)) (byte_len w) ≡ false = le-ltb _ _ (omega (arith, len, length-append front rest)) in
    let value : from_be_bytes w front ≡ n = ap (from_be_bytes w) s.bytes_are ∙ wide.again n s.fits in
    rw (long, take_at front rest (byte_len w) len, drop_at front rest (byte_len w) len, value, len) refl

short_sticks : {A : Type 0} (len at : ℕ) (rest : List ℕ) (f : ClassFault) (x : A) (q : Place) → cond (ltb (length rest) len) (err (fault.Short at)) (ok_at x q) ≡ err f → IsShort len at rest f
short_sticks len at rest f x q e = let g = failed (ltb (length rest) len) (fault.Short at) f x q e in record { few = ltb-true _ _ g.0; is = sym g.1 }

short_stuck : {A : Type 0} (len at : ℕ) (rest : List ℕ) (f : ClassFault) (x : A) (q : Place) → IsShort len at rest f → cond (ltb (length rest) len) (err (fault.Short at)) (ok_at x q) ≡ err f
short_stuck len at rest f x q s = rw (lt-ltb _ _ s.few, s.is) refl

number_sticks : (w : Width) (p : Place) (f : ClassFault) → read_number w p ≡ Err f → IsShort (byte_len w) p.at p.rest f
unfolding read_number
number_sticks w p f e = short_sticks (byte_len w) p.at p.rest f _ _ e

number_stuck : (w : Width) (at : ℕ) (rest : List ℕ) (f : ClassFault) → IsShort (byte_len w) at rest f → read_number w (place at rest) ≡ Err f
unfolding read_number
number_stuck w at rest f s = short_stuck (byte_len w) at rest f _ _ s

number_right : (w : Width) → IsWide w → Right (number w)
number_right w wide = record { takes = number_takes w wide; again = number_again w wide; sticks = λ p f fits e. number_sticks w p f e; stuck = λ at rest f fits s. number_stuck w at rest f s }

pub right8 : Right (number w8)
right8 = number_right w8 wide8

pub right16 : Right (number w16)
right16 = number_right w16 wide16

pub right32 : Right (number w32)
right32 = number_right w32 wide32

-- ---- runs

run_takes : (len : ℕ) (p q : Place) (x : List ℕ) → IsBytes p.rest → read_run len p ≡ Ok (x, q) → Takes (run len) p x q
unfolding read_run
run_takes len p q x fits e =
    let g = passed (ltb (length p.rest) len) (fault.Short p.at) (take len p.rest) x (place (p.at + len) (drop len p.rest)) q e in
    let long : len ≤ length p.rest = ltb-false _ _ g.0 in
    let taken : length (take len p.rest) ≡ len = omega (arith, length-take len p.rest) in
    subst (λ (r : List ℕ × Place). Takes (run len) p r.0 r.1) g.1 (record {
      front = take len p.rest;
      spells = record { len_is = taken; bytes_are = refl };
      parts = sym (take-append-drop len p.rest);
      at_is = ap (λ (k : ℕ). p.at + k) (sym taken);
    })

run_again : (len at : ℕ) (front rest : List ℕ) (x : List ℕ) → SpellsRun len x front → read_run len (place at (front ++ rest)) ≡ Ok (x, place (at + length front) rest)
unfolding read_run
run_again len at front rest x s =
    let n : length front ≡ len = ap length s.bytes_are ∙ s.len_is in
    let long : ltb (length (front ++ rest)) len ≡ false = le-ltb _ _ (omega (arith, n, length-append front rest)) in
    rw (long, take_at front rest len n, drop_at front rest len n, n, s.bytes_are) refl

run_sticks : (len : ℕ) (p : Place) (f : ClassFault) → read_run len p ≡ Err f → IsShort len p.at p.rest f
unfolding read_run
run_sticks len p f e = short_sticks len p.at p.rest f _ _ e

run_stuck : (len at : ℕ) (rest : List ℕ) (f : ClassFault) → IsShort len at rest f → read_run len (place at rest) ≡ Err f
unfolding read_run
run_stuck len at rest f s = short_stuck len at rest f _ _ s

pub run_right : (len : ℕ) → Right (run len)
run_right len = record { takes = run_takes len; again = run_again len; sticks = λ p f fits e. run_sticks len p f e; stuck = λ at rest f fits s. run_stuck len at rest f s }

-- ---- nothing

pure_takes : {A : Type 0} (x y : A) (p q : Place) → ok_at x p ≡ ok_at y q → Takes (pure x) p y q
pure_takes {A} x y p q e =
    let k : with_place x p ≡ with_place y q = cc in
    subst (λ (r : A × Place). Takes (pure x) p r.0 r.1) k (record { front = []; spells = record { is = refl; none = refl }; parts = refl; at_is = omega arith })

pure_again : {A : Type 0} (x y : A) (at : ℕ) (front rest : List ℕ) → SpellsNothing x y front → ok_at x (place at (front ++ rest)) ≡ ok_at y (place (at + length front) rest)
pure_again x y at front rest s = rw (s.is, s.none) (ap (ok_at x) (same_place at (at + 0) rest (omega arith)))

pub pure_right : {A : Type 0} (x : A) → Right (pure x)
pure_right x = record { takes = λ p q y fits e. pure_takes x y p q e; again = λ at front rest y s. pure_again x y at front rest s; sticks = λ p f fits e. absurd cc; stuck = λ at rest f fits s. absurd s }

pub refused_right : {A : Type 0} (e : ClassFault) → Right (refused {A = A} e)
refused_right e = record { takes = λ p q x fits h. absurd cc; again = λ at front rest x s. absurd s; sticks = λ p f fits h. cc; stuck = λ at rest f fits s. ap err (sym s) }

-- ---- one behind the other

pub Takes-then : {A B : Type 0} (L : Layout A) (k : A → Layout B) (p q r : Place) (x : A) (y : B) → Takes L p x q → Takes (k x) q y r → Takes (L >>= k) p y r
Takes-then L k p q r x y s t = record {
  front = s.front ++ t.front;
  spells = record { value = x; front = s.front; back = t.front; parts = refl; first = s.spells; second = t.spells };
  parts = s.parts ∙ ap (λ (w : List ℕ). s.front ++ w) t.parts ∙ sym (append_assoc s.front t.front r.rest);
  at_is = omega (arith, s.at_is, t.at_is, length-append s.front t.front);
}

pub rest_fits : {A : Type 0} (L : Layout A) (p q : Place) (x : A) → IsBytes p.rest → Takes L p x q → IsBytes q.rest
rest_fits L p q x fits t = IsBytes-behind t.front q.rest (subst IsBytes t.parts fits)

then_takes : {A B : Type 0} (L : Layout A) (k : A → Layout B) (R : Right L) (S : (x : A) → Right (k x)) (p q : Place) (y : B) (o : Outcome A) → L.read p ≡ o → IsBytes p.rest → and_then o k ≡ Ok (y, q) → Takes (L >>= k) p y q
then_takes L k R S p q y (Err f) is fits e = absurd cc
then_takes L k R S p q y (Ok r) is fits e =
    let t = R.takes p r.1 r.0 fits is in
    Takes-then L k p r.1 q r.0 y t ((S r.0).takes r.1 q y (rest_fits L p r.1 r.0 fits t) e)

then_again : {A B : Type 0} (L : Layout A) (k : A → Layout B) (R : Right L) (S : (x : A) → Right (k x)) (at : ℕ) (bytes rest : List ℕ) (y : B) → Both L k y bytes → and_then (L.read (place at (bytes ++ rest))) k ≡ Ok (y, place (at + length bytes) rest)
then_again {A} L k R S at bytes rest y b =
    let whole : bytes ++ rest ≡ b.front ++ (b.back ++ rest) = ap (λ (w : List ℕ). w ++ rest) b.parts ∙ append_assoc b.front b.back rest in
    let first : L.read (place at (bytes ++ rest)) ≡ Ok (b.value, place (at + length b.front) (b.back ++ rest)) = ap (λ (w : List ℕ). L.read (place at w)) whole ∙ R.again at b.front (b.back ++ rest) b.value b.first in
    let second = (S b.value).again (at + length b.front) b.back rest y b.second in
    let len : length bytes ≡ length (b.front ++ b.back) = ap length b.parts in
    ap (λ (o : Outcome A). and_then o k) first ∙ second ∙ ap (ok_at y) (same_place _ _ rest (omega (arith, len, length-append b.front b.back)))

then_sticks : {A B : Type 0} (L : Layout A) (k : A → Layout B) (R : Right L) (S : (x : A) → Right (k x)) (p : Place) (f : ClassFault) (o : Outcome A) → L.read p ≡ o → IsBytes p.rest → and_then o k ≡ Err f → StuckIn L k p.at p.rest f
then_sticks L k R S p f (Err g) is fits e = let same : g ≡ f = cc in in_first (subst (L.Stuck p.at p.rest) same (R.sticks p g fits is))
then_sticks L k R S p f (Ok r) is fits e =
    let t = R.takes p r.1 r.0 fits is in
    let later = (S r.0).sticks r.1 f (rest_fits L p r.1 r.0 fits t) e in
    in_second r.0 t.front r.1.rest t.parts t.spells (subst (λ (n : ℕ). (k r.0).Stuck n r.1.rest f) t.at_is later)

then_stuck : {A B : Type 0} (L : Layout A) (k : A → Layout B) (R : Right L) (S : (x : A) → Right (k x)) (at : ℕ) (rest : List ℕ) (f : ClassFault) → IsBytes rest → StuckIn L k at rest f → and_then (L.read (place at rest)) k ≡ Err f
then_stuck {A} L k R S at rest f fits (in_first s) = ap (λ (o : Outcome A). and_then o k) (R.stuck at rest f fits s)
then_stuck {A} L k R S at rest f fits (in_second x front back parts s t) =
    let first : L.read (place at rest) ≡ Ok (x, place (at + length front) back) = ap (λ (w : List ℕ). L.read (place at w)) parts ∙ R.again at front back x s in
    ap (λ (o : Outcome A). and_then o k) first ∙ (S x).stuck (at + length front) back f (IsBytes-behind front back (subst IsBytes parts fits)) t

pub bind_right : {A B : Type 0} (L : Layout A) (k : A → Layout B) → Right L → ((x : A) → Right (k x)) → Right (L >>= k)
bind_right L k R S = record {
  takes = λ p q y fits e. then_takes L k R S p q y (L.read p) refl fits e;
  again = λ at bytes rest y b. then_again L k R S at bytes rest y b;
  sticks = λ p f fits e. then_sticks L k R S p f (L.read p) refl fits e;
  stuck = λ at rest f fits s. then_stuck L k R S at rest f fits s;
}

-- ---- one of two

choose_takes : {A : Type 0} (b : Bool) (L M : Layout A) (R : Right L) (S : Right M) (p q : Place) (x : A) (c : Bool) → b ≡ c → IsBytes p.rest → cond c (L.read p) (M.read p) ≡ Ok (x, q) → Takes (choose b L M) p x q
choose_takes b L M R S p q x true is fits e = let t = R.takes p q x fits e in record { front = t.front; spells = yes is t.spells; parts = t.parts; at_is = t.at_is }
choose_takes b L M R S p q x false is fits e = let t = S.takes p q x fits e in record { front = t.front; spells = no is t.spells; parts = t.parts; at_is = t.at_is }

choose_again : {A : Type 0} (b : Bool) (L M : Layout A) (R : Right L) (S : Right M) (at : ℕ) (front rest : List ℕ) (x : A) → Chosen b L M x front → cond b (L.read (place at (front ++ rest))) (M.read (place at (front ++ rest))) ≡ Ok (x, place (at + length front) rest)
choose_again b L M R S at front rest x (yes is s) = rw is (R.again at front rest x s)
choose_again b L M R S at front rest x (no is s) = rw is (S.again at front rest x s)

choose_sticks : {A : Type 0} (b : Bool) (L M : Layout A) (R : Right L) (S : Right M) (p : Place) (f : ClassFault) (c : Bool) → b ≡ c → IsBytes p.rest → cond c (L.read p) (M.read p) ≡ Err f → StuckChosen b L M p.at p.rest f
choose_sticks b L M R S p f true is fits e = yes_stuck is (R.sticks p f fits e)
choose_sticks b L M R S p f false is fits e = no_stuck is (S.sticks p f fits e)

choose_stuck : {A : Type 0} (b : Bool) (L M : Layout A) (R : Right L) (S : Right M) (at : ℕ) (rest : List ℕ) (f : ClassFault) → IsBytes rest → StuckChosen b L M at rest f → cond b (L.read (place at rest)) (M.read (place at rest)) ≡ Err f
choose_stuck b L M R S at rest f fits (yes_stuck is s) = rw is (R.stuck at rest f fits s)
choose_stuck b L M R S at rest f fits (no_stuck is s) = rw is (S.stuck at rest f fits s)

pub choose_right : {A : Type 0} (b : Bool) (L M : Layout A) → Right L → Right M → Right (choose b L M)
choose_right b L M R S = record {
  takes = λ p q x fits e. choose_takes b L M R S p q x b refl fits e;
  again = λ at front rest x s. choose_again b L M R S at front rest x s;
  sticks = λ p f fits e. choose_sticks b L M R S p f b refl fits e;
  stuck = λ at rest f fits s. choose_stuck b L M R S at rest f fits s;
}

-- ---- turned

turn_takes : {A B : Type 0} (L : Layout A) (f : A → Option B) (refuse : ℕ → A → ClassFault) (p q r : Place) (x : A) (y : B) (o : Option B) → f x ≡ o → Takes L p x r → turn o (refuse p.at x) r ≡ Ok (y, q) → Takes (turned L f refuse) p y q
turn_takes L f refuse p q r x y None is t e = absurd cc
turn_takes {A} {B} L f refuse p q r x y (Some z) is t e =
    let k : with_place z r ≡ with_place y q = cc in
    subst (λ (w : B × Place). Takes (turned L f refuse) p w.0 w.1) k (record { front = t.front; spells = record { value = x; first = t.spells; is = is }; parts = t.parts; at_is = t.at_is })

turned_takes : {A B : Type 0} (L : Layout A) (f : A → Option B) (refuse : ℕ → A → ClassFault) (R : Right L) (p q : Place) (y : B) (o : Outcome A) → L.read p ≡ o → IsBytes p.rest → turned_by o f (refuse p.at) ≡ Ok (y, q) → Takes (turned L f refuse) p y q
turned_takes L f refuse R p q y (Err g) is fits e = absurd cc
turned_takes L f refuse R p q y (Ok r) is fits e = turn_takes L f refuse p q r.1 r.0 y (f r.0) refl (R.takes p r.1 r.0 fits is) e

turned_again : {A B : Type 0} (L : Layout A) (f : A → Option B) (refuse : ℕ → A → ClassFault) (R : Right L) (at : ℕ) (front rest : List ℕ) (y : B) → Turned L f y front → turned_by (L.read (place at (front ++ rest))) f (refuse at) ≡ Ok (y, place (at + length front) rest)
turned_again L f refuse R at front rest y t = rw (R.again at front rest t.value t.first, t.is) refl

turn_sticks : {A B : Type 0} (L : Layout A) (f : A → Option B) (refuse : ℕ → A → ClassFault) (p r : Place) (x : A) (e : ClassFault) (o : Option B) → f x ≡ o → Takes L p x r → turn o (refuse p.at x) r ≡ Err e → StuckTurned L f refuse p.at p.rest e
turn_sticks L f refuse p r x e (Some z) is t h = absurd cc
turn_sticks L f refuse p r x e None is t h = let same : e ≡ refuse p.at x = cc in wrong x t.front r.rest t.parts t.spells is same

turned_sticks : {A B : Type 0} (L : Layout A) (f : A → Option B) (refuse : ℕ → A → ClassFault) (R : Right L) (p : Place) (e : ClassFault) (o : Outcome A) → L.read p ≡ o → IsBytes p.rest → turned_by o f (refuse p.at) ≡ Err e → StuckTurned L f refuse p.at p.rest e
turned_sticks L f refuse R p e (Err g) is fits h = let same : g ≡ e = cc in in_value (subst (L.Stuck p.at p.rest) same (R.sticks p g fits is))
turned_sticks L f refuse R p e (Ok r) is fits h = turn_sticks L f refuse p r.1 r.0 e (f r.0) refl (R.takes p r.1 r.0 fits is) h

turned_stuck : {A B : Type 0} (L : Layout A) (f : A → Option B) (refuse : ℕ → A → ClassFault) (R : Right L) (at : ℕ) (rest : List ℕ) (e : ClassFault) → IsBytes rest → StuckTurned L f refuse at rest e → turned_by (L.read (place at rest)) f (refuse at) ≡ Err e
turned_stuck L f refuse R at rest e fits (in_value s) = rw (R.stuck at rest e fits s) refl
turned_stuck L f refuse R at rest e fits (wrong x front back parts s is same) = rw (parts, R.again at front back x s, is, same) refl

pub turned_right : {A B : Type 0} (L : Layout A) (f : A → Option B) (refuse : ℕ → A → ClassFault) → Right L → Right (turned L f refuse)
turned_right L f refuse R = record {
  takes = λ p q y fits e. turned_takes L f refuse R p q y (L.read p) refl fits e;
  again = λ at front rest y t. turned_again L f refuse R at front rest y t;
  sticks = λ p e fits h. turned_sticks L f refuse R p e (L.read p) refl fits h;
  stuck = λ at rest e fits s. turned_stuck L f refuse R at rest e fits s;
}

-- ---- so many

pub many_right : {A : Type 0} (n : ℕ) (found : List A) (step : List A → Layout (List A)) → ((xs : List A) → Right (step xs)) → Right (many n found step)
unfolding many
many_right zero found step R = pure_right found
many_right (suc n) found step R = bind_right (step found) (λ xs. many n (found ++ xs) step) (R found) (λ xs. many_right n (found ++ xs) step R)

-- ---- a part that fills its bytes

pub nothing_left : (b : Bool) (rest : List ℕ) → ltb 0 (length rest) ≡ b → b ≡ false → rest ≡ []
nothing_left b [] is e = refl
nothing_left b (x ∷ xs) is e = absurd (let k = ltb-false 0 (length (x ∷ xs)) (is ∙ e) in omega (arith, k))

-- a part that was read to its end spells its bytes
pub fills_by : {A : Type 0} (L : Layout A) (R : Right L) (bytes : List ℕ) (x : A) (r : Place) → IsBytes bytes → L.read (place 0 bytes) ≡ Ok (x, r) → r.rest ≡ [] → L.Spells x bytes
fills_by L R bytes x r fits e none =
    let t = R.takes (place 0 bytes) r x fits e in
    let same : bytes ≡ t.front = t.parts ∙ ap (λ (w : List ℕ). t.front ++ w) none ∙ append-nil t.front in
    subst (L.Spells x) (sym same) t.spells

pub read_full : {A : Type 0} (L : Layout A) (R : Right L) (bytes : List ℕ) (x : A) → L.Spells x bytes → L.read (place 0 bytes) ≡ Ok (x, place (0 + length bytes) [])
read_full L R bytes x s = ap (λ (w : List ℕ). L.read (place 0 w)) (sym (append-nil bytes)) ∙ R.again 0 bytes [] x s

filled_takes : {A : Type 0} (L : Layout A) (R : Right L) (e : ClassFault) (bytes : List ℕ) (x : A) (q r : Place) (o : Outcome A) → L.read (place 0 bytes) ≡ o → IsBytes bytes → filled o e r ≡ Ok (x, q) → L.Spells x bytes × (r ≡ q)
filled_takes L R e bytes x q r (Err f) is fits h = absurd cc
filled_takes {A} L R e bytes x q r (Ok y) is fits h =
    let g = passed (ltb 0 (length y.1.rest)) e y.0 x r q h in
    let none : y.1.rest ≡ [] = nothing_left _ y.1.rest refl g.0 in
    let s = fills_by L R bytes y.0 y.1 fits is none in
    (subst (λ (z : A). L.Spells z bytes) (ap (λ (w : A × Place). w.0) g.1) s, ap (λ (w : A × Place). w.1) g.1)

inside_takes : {A : Type 0} (len : ℕ) (L : Layout A) (refuse : ℕ → ClassFault) (R : Right L) (p q : Place) (x : A) (o : Outcome (List ℕ)) → read_run len p ≡ o → IsBytes p.rest → inside_by o L (refuse p.at) ≡ Ok (x, q) → Takes (inside len L refuse) p x q
inside_takes len L refuse R p q x (Err f) is fits h = absurd cc
inside_takes len L refuse R p q x (Ok r) is fits h =
    let t = run_takes len p r.1 r.0 fits is in
    let same : t.front ≡ r.0 = t.spells.bytes_are in
    let part_fits : IsBytes r.0 = subst IsBytes same (IsBytes-front t.front r.1.rest (subst IsBytes t.parts fits)) in
    let s = filled_takes L R (refuse p.at) r.0 x q r.1 (L.read (place 0 r.0)) refl part_fits h in
    subst (Takes (inside len L refuse) p x) s.1 (record {
      front = t.front;
      spells = record { fills = ap length same ∙ t.spells.len_is; first = subst (L.Spells x) (sym same) s.0 };
      parts = t.parts;
      at_is = t.at_is;
    })

run_of : (len at : ℕ) (front rest : List ℕ) → length front ≡ len → read_run len (place at (front ++ rest)) ≡ Ok (front, place (at + length front) rest)
run_of len at front rest e = run_again len at front rest front (record { len_is = e; bytes_are = refl })

inside_again : {A : Type 0} (len : ℕ) (L : Layout A) (refuse : ℕ → ClassFault) (R : Right L) (at : ℕ) (front rest : List ℕ) (x : A) → Inside len L x front → inside_by (read_run len (place at (front ++ rest))) L (refuse at) ≡ Ok (x, place (at + length front) rest)
inside_again len L refuse R at front rest x s = rw (run_of len at front rest s.fills, read_full L R front x s.first) refl

filled_sticks : {A : Type 0} (L : Layout A) (R : Right L) (e f : ClassFault) (bytes : List ℕ) (r : Place) (o : Outcome A) → L.read (place 0 bytes) ≡ o → filled o e r ≡ Err f → ((x : A) → L.Spells x bytes → ⊥) × (f ≡ e)
filled_sticks {A} L R e f bytes r (Err g) is h =
    ((λ x s. (let k : ok_at x (place (0 + length bytes) []) ≡ err g = sym (read_full L R bytes x s) ∙ is in cc)), cc)
filled_sticks {A} L R e f bytes r (Ok y) is h =
    let g = failed (ltb 0 (length y.1.rest)) e f y.0 r h in (
      (λ x s. (let k : with_place x (place (0 + length bytes) []) ≡ with_place y.0 y.1 = (let j : ok_at x (place (0 + length bytes) []) ≡ ok_at y.0 y.1 = sym (read_full L R bytes x s) ∙ is in cc) in
          let none : [] ≡ y.1.rest = ap (λ (w : A × Place). w.1.rest) k in
          let m = ltb-true 0 (length y.1.rest) g.0 in
          let z : length y.1.rest ≡ 0 = ap length (sym none) in
          omega (arith, m, z))),
      sym g.1,
    )

inside_sticks : {A : Type 0} (len : ℕ) (L : Layout A) (refuse : ℕ → ClassFault) (R : Right L) (p : Place) (f : ClassFault) (o : Outcome (List ℕ)) → read_run len p ≡ o → IsBytes p.rest → inside_by o L (refuse p.at) ≡ Err f → StuckInside len L (refuse p.at) p.at p.rest f
inside_sticks len L refuse R p f (Err g) is fits h = let same : g ≡ f = cc in cut (run_sticks len p f (is ∙ ap err same))
inside_sticks len L refuse R p f (Ok r) is fits h =
    let t = run_takes len p r.1 r.0 fits is in
    let same : t.front ≡ r.0 = t.spells.bytes_are in
    let s = filled_sticks L R (refuse p.at) f r.0 r.1 (L.read (place 0 r.0)) refl h in
    unfilled r.0 r.1.rest (t.parts ∙ ap (λ (w : List ℕ). w ++ r.1.rest) same) (t.spells.len_is) s.0 s.1

filled_stuck_by : {A : Type 0} (L : Layout A) (R : Right L) (e : ClassFault) (bytes : List ℕ) (r : Place) (y : A × Place) (b : Bool) → ltb 0 (length y.1.rest) ≡ b → L.read (place 0 bytes) ≡ Ok y → IsBytes bytes → ((x : A) → L.Spells x bytes → ⊥) → cond b (err e) (ok_at y.0 r) ≡ Err e
filled_stuck_by L R e bytes r y true w is fits h = refl
filled_stuck_by L R e bytes r y false w is fits h = absurd (h y.0 (fills_by L R bytes y.0 y.1 fits is (nothing_left _ y.1.rest w refl)))

filled_stuck : {A : Type 0} (L : Layout A) (R : Right L) (e : ClassFault) (bytes : List ℕ) (r : Place) (o : Outcome A) → L.read (place 0 bytes) ≡ o → IsBytes bytes → ((x : A) → L.Spells x bytes → ⊥) → filled o e r ≡ Err e
filled_stuck L R e bytes r (Err g) is fits h = refl
filled_stuck L R e bytes r (Ok y) is fits h = filled_stuck_by L R e bytes r y _ refl is fits h

inside_stuck : {A : Type 0} (len : ℕ) (L : Layout A) (refuse : ℕ → ClassFault) (R : Right L) (at : ℕ) (rest : List ℕ) (f : ClassFault) → IsBytes rest → StuckInside len L (refuse at) at rest f → inside_by (read_run len (place at rest)) L (refuse at) ≡ Err f
inside_stuck len L refuse R at rest f fits (cut s) = rw (run_stuck len at rest f s) refl
inside_stuck {A} len L refuse R at rest f fits (unfilled front back parts n h same) =
    let part_fits : IsBytes front = IsBytes-front front back (subst IsBytes parts fits) in
    let run_is : read_run len (place at rest) ≡ Ok (front, place (at + length front) back) = ap (λ (w : List ℕ). read_run len (place at w)) parts ∙ run_of len at front back n in
    rw run_is (filled_stuck L R (refuse at) front (place (at + length front) back) (L.read (place 0 front)) refl part_fits h ∙ ap err (sym same))

pub inside_right : {A : Type 0} (len : ℕ) (L : Layout A) (refuse : ℕ → ClassFault) → Right L → Right (inside len L refuse)
inside_right len L refuse R = record {
  takes = λ p q x fits h. inside_takes len L refuse R p q x (read_run len p) refl fits h;
  again = λ at front rest x s. inside_again len L refuse R at front rest x s;
  sticks = λ p f fits h. inside_sticks len L refuse R p f (read_run len p) refl fits h;
  stuck = λ at rest f fits s. inside_stuck len L refuse R at rest f fits s;
}
