-- Entering: it finds, or it enters the parts that are absent and then the entry.
use Rattle.std.proofs.Common.{◌≡◌, ℕ, zero, suc, ◌+◌, ◌-◌, ◌<◌, ◌≤◌, Bool, true, false, ◌&&◌, cond, List, [], ◌∷◌, ◌++◌, length, Option, Some, None, refl, sym, ap, subst, ◌∙◌, inl, inr, ◌⊎◌, arith, append_assoc, append-nil, length-append, ltb, eq-eqb}
use Rattle.std.specs.Prelude.{ℤ}
use Rattle.std.proofs.lemmas.Bool.{le-ltb, ltb-true, ltb-false}
use Rattle.std.proofs.lemmas.Bool.Decides.{Decides-int_eq}
use Rattle.std.proofs.lemmas.Slice.Eq.{bytes_eq-Decides}
use Rattle.item_types.specs.Modified.{modified_len}
use Rattle.class_pool.specs.declared.entry.Entry.{Entry}
use Rattle.class_pool.specs.declared.entry.Entry.TheVariants as entry
use Rattle.class_pool.specs.declared.shown.Shown.{Shown}
use Rattle.class_pool.specs.declared.shown.Shown.TheVariants as shown
use Rattle.class_pool.specs.Entries.{entry_at}
use Rattle.class_pool.specs.Showing.{is_text, shows, passes, first_from, least, Holds}
use Rattle.class_pool.specs.Enter.{Entered, put, put_two, found_or, after, enter, utf8, integer, long, class, string, name_type, field, method}
use Rattle.class_pool.proofs.Firsts.{at_last, least_passes}
use Rattle.class_pool.proofs.Shows.{still_shows, holds_more, text_put, string_put, text_held, member_held, and_true}
use Rattle.class_pool.specs.Growth.{ReferRight, size_of, size, cost, left, one, weight, Among, Covered, with_parts, entries_for, rank, AreBelow, GapsRight, Grows, Puts, AreShort, IsShort}
use Rattle.class_pool.proofs.Potential.{held_found, size_append, size_one, left_less, left_drops, left_some, every_more, every_append, refers_shown, still_absent, rank_of, left_at_most}

append_below : (n : ℕ) (xs ys : List Entry) → AreBelow n xs → AreBelow n ys → AreBelow n (xs ++ ys)
append_below n [] ys h k = k
append_below n (x ∷ xs) ys h k = (h.0, append_below n xs ys h.1 k)

below_more : (m n : ℕ) (xs : List Entry) → m ≤ n → AreBelow m xs → AreBelow n xs
below_more m n [] le h = tt
below_more m n (x ∷ xs) le h = (omega (arith, le, h.0), below_more m n xs le h.1)

pub shaped_append : (xs ys : List Entry) → GapsRight xs → GapsRight ys → GapsRight (xs ++ ys)
shaped_append [] ys h k = k
shaped_append (entry.Long n ∷ entry.Gap ∷ xs) ys h k = shaped_append xs ys h k
shaped_append (entry.Double n ∷ entry.Gap ∷ xs) ys h k = shaped_append xs ys h k
shaped_append (entry.Utf8 t ∷ xs) ys h k = shaped_append xs ys h k
shaped_append (entry.Integer n ∷ xs) ys h k = shaped_append xs ys h k
shaped_append (entry.Float n ∷ xs) ys h k = shaped_append xs ys h k
shaped_append (entry.Class n ∷ xs) ys h k = shaped_append xs ys h k
shaped_append (entry.Str n ∷ xs) ys h k = shaped_append xs ys h k
shaped_append (entry.Field a b ∷ xs) ys h k = shaped_append xs ys h k
shaped_append (entry.Method a b ∷ xs) ys h k = shaped_append xs ys h k
shaped_append (entry.Interface a b ∷ xs) ys h k = shaped_append xs ys h k
shaped_append (entry.NameType a b ∷ xs) ys h k = shaped_append xs ys h k
shaped_append _ ys h k = absurd h

pub grows_self : (n : ℕ) (us : List Shown) (es : List Entry) → ReferRight es es → Grows n us es es
grows_self n us es h = record { stays = ([], sym (append-nil es), tt, tt); refer = h; kept = λ f k. omega arith }

pub grows_then : (n : ℕ) (us : List Shown) (es fs gs : List Entry) → Grows n us es fs → Grows n us fs gs → Grows n us es gs
grows_then n us es fs gs a b =
    record {
      stays = (a.stays.0 ++ b.stays.0, b.stays.1 ∙ (ap (λ q. q ++ b.stays.0) a.stays.1 ∙ append_assoc es a.stays.0 b.stays.0), append_below n a.stays.0 b.stays.0 a.stays.2 b.stays.2, shaped_append a.stays.0 b.stays.0 a.stays.3 b.stays.3);
      refer = b.refer;
      kept = λ f k. omega (arith, a.kept f k, b.kept f k);
    }

pub grows_more : (m n : ℕ) (us : List Shown) (es fs : List Entry) → m ≤ n → Grows m us es fs → Grows n us es fs
grows_more m n us es fs le a = record { stays = (a.stays.0, a.stays.1, below_more m n a.stays.0 le a.stays.2, a.stays.3); refer = a.refer; kept = a.kept }

holds_then : (n : ℕ) (us : List Shown) (es fs : List Entry) (i : ℕ) (w : Shown) → Grows n us es fs → Holds es i w → Holds fs i w
holds_then n us es fs i w g h = subst (λ q. Holds q i w) (sym g.stays.1) (holds_more es g.stays.0 i w h)

-- ---- one more entry

single : Shown → Entry → Type 0
single w e = (f : List ℕ → ℕ) (k : ℕ) → size_of f k e ≡ cost f k w

one_more : (us : List Shown) (w : Shown) (e : Entry) (es : List Entry) → Among w us → ReferRight es es → least w es ≡ None → shows es w e ≡ true → rank e < 3 → GapsRight (e ∷ []) → ((f : List ℕ → ℕ) (k : ℕ) → size_of f k e ≡ cost f k w) →
    Holds (es ++ e ∷ []) (length es + 1) w → Grows (suc (rank e)) us es (es ++ e ∷ [])
one_more us w e es i b absent show low solid same holds =
    record {
      stays = (e ∷ [], refl, (omega arith, tt), solid);
      refer = every_append (es ++ e ∷ []) es (e ∷ []) (every_more es (e ∷ []) es b) (every_more es (e ∷ []) (e ∷ []) (refers_shown es w e show, tt));
      kept = λ f k. omega (arith, left_drops f k us w es (e ∷ []) i absent (held_found w (es ++ e ∷ []) (length es + 1) holds), size_append f k es (e ∷ []), same f k);
    }

last_holds : (w : Shown) (e : Entry) (es : List Entry) → shows (es ++ e ∷ []) w e ≡ true → Holds (es ++ e ∷ []) (length es + 1) w
last_holds w e es h = ap (passes (shows (es ++ e ∷ []) w)) (at_last e es) ∙ h

put_by : (t : Bool) (us : List Shown) (w : Shown) (e : Entry) (es fs : List Entry) → ltb 65533 (length fs) ≡ t → Grows (rank_of w) us es fs → 1 ≤ left one 1 us fs →
    Holds (fs ++ e ∷ []) (length fs + 1) w → Grows (suc (rank_of w)) us es (fs ++ e ∷ []) → Puts (suc (rank_of w)) us w es (cond t None (Some (length fs + 1, fs ++ e ∷ [])))
put_by true us w e es fs t g some h k = omega (arith, ltb-true 65533 (length fs) t, g.kept one 1, size_one es, size_one fs, some)
put_by false us w e es fs t g some h k = (h, k)

-- the parts were entered, and then the entry takes the next index
put_gives : (us : List Shown) (w : Shown) (e : Entry) (es fs : List Entry) → Among w us → ReferRight es es → least w es ≡ None → Grows (rank_of w) us es fs → rank e ≡ rank_of w → rank e < 3 → GapsRight (e ∷ []) →
    ((f : List ℕ → ℕ) (k : ℕ) → size_of f k e ≡ cost f k w) → cost one 1 w ≡ 1 → shows fs w e ≡ true → Puts (suc (rank_of w)) us w es (put e fs)
put_gives us w e es fs i b absent g same low solid sized unit show =
    let gone : least w fs ≡ None = subst (λ q. least w q ≡ None) (sym g.stays.1) (still_absent w es g.stays.0 b g.stays.2 absent) in
    let some : 1 ≤ left one 1 us fs = omega (arith, left_some one 1 us w fs i gone, unit) in
    let show_more : shows (fs ++ e ∷ []) w e ≡ true = still_shows fs (e ∷ []) w e show in
    let holds = last_holds w e fs show_more in
    let last : Grows (suc (rank_of w)) us fs (fs ++ e ∷ []) = subst (λ n. Grows (suc n) us fs (fs ++ e ∷ [])) same (one_more us w e fs i g.refer gone show low solid sized holds) in
    put_by (ltb 65533 (length fs)) us w e es fs refl g some holds (grows_then (suc (rank_of w)) us es fs (fs ++ e ∷ []) (grows_more (rank_of w) (suc (rank_of w)) us es fs (omega arith) g) last)

or_found : (n : ℕ) (us : List Shown) (w : Shown) (es : List Entry) (new : Entered) (o : Option ℕ) → least w es ≡ o → ReferRight es es → (least w es ≡ None → Puts n us w es new) → Puts n us w es (found_or o new es)
or_found n us w es new (Some i) e b h = (least_passes (shows es w) i es e, grows_self n us es b)
or_found n us w es new None e b h = h e

utf8_in : (us : List Shown) (t : List ℕ) (es : List Entry) → Among (shown.Text t) us → ReferRight es es → Puts 1 us (shown.Text t) es (utf8 t es)
unfolding utf8
utf8_in us t es i b =
    or_found 1 us (shown.Text t) es (put (entry.Utf8 t) es) (least (shown.Text t) es) refl b
    (λ absent. put_gives us (shown.Text t) (entry.Utf8 t) es es i b absent (grows_self 0 us es b) refl (omega arith) tt (λ f k. refl) refl ((bytes_eq-Decides t t).1 refl))

-- a part was entered, and what is entered next
next_puts : (m n : ℕ) (us : List Shown) (v w : Shown) (es fs : List Entry) (r : Entered) (next : ℕ → List Entry → Entered) → Grows m us es fs → Puts m us v fs r →
    ((i : ℕ) (gs : List Entry) → Holds gs i v → Grows m us fs gs → Puts n us w es (next i gs)) → Puts n us w es (after r next)
next_puts m n us v w es fs None next g p h = omega (arith, p, g.kept one 1, size_one es, size_one fs)
next_puts m n us v w es fs (Some r) next g p h = h r.0 r.1 p.0 p.1

then_puts : (m n : ℕ) (us : List Shown) (v w : Shown) (es : List Entry) (r : Entered) (next : ℕ → List Entry → Entered) → ReferRight es es → Puts m us v es r →
    ((i : ℕ) (fs : List Entry) → Holds fs i v → Grows m us es fs → Puts n us w es (next i fs)) → Puts n us w es (after r next)
then_puts m n us v w es r next b p h = next_puts m n us v w es es r next (grows_self m us es b) p h

class_in : (us : List Shown) (t : List ℕ) (es : List Entry) → Among (shown.Text t) us × Among (shown.Class t) us → ReferRight es es → Puts 2 us (shown.Class t) es (class t es)
unfolding class
class_in us t es i b =
    or_found 2 us (shown.Class t) es (after (utf8 t es) (λ n fs. put (entry.Class n) fs)) (least (shown.Class t) es) refl b
    (λ absent. then_puts 1 2 us (shown.Text t) (shown.Class t) es (utf8 t es) (λ n fs. put (entry.Class n) fs) b (utf8_in us t es i.0 b)
    (λ n fs h g. put_gives us (shown.Class t) (entry.Class n) es fs i.1 b absent g refl (omega arith) tt (λ f k. refl) refl (text_put fs n t (shown.Class t) refl h)))

string_in : (us : List Shown) (t : List ℕ) (es : List Entry) → Among (shown.Text t) us × Among (shown.Str t) us → ReferRight es es → Puts 2 us (shown.Str t) es (string t es)
unfolding string
string_in us t es i b =
    or_found 2 us (shown.Str t) es (after (utf8 t es) (λ n fs. put (entry.Str n) fs)) (least (shown.Str t) es) refl b
    (λ absent. then_puts 1 2 us (shown.Text t) (shown.Str t) es (utf8 t es) (λ n fs. put (entry.Str n) fs) b (utf8_in us t es i.0 b)
    (λ n fs h g. put_gives us (shown.Str t) (entry.Str n) es fs i.1 b absent g refl (omega arith) tt (λ f k. refl) refl (string_put fs n t (shown.Str t) refl h)))

descriptor_in : (us : List Shown) (a d : List ℕ) (es fs : List Entry) (n : ℕ) → Among (shown.Text d) us → Among (shown.NameType a d) us → ReferRight es es → least (shown.NameType a d) es ≡ None → Holds fs n (shown.Text a) → Grows 1 us es fs →
    Puts 2 us (shown.NameType a d) es (after (utf8 d fs) (λ m gs. put (entry.NameType n m) gs))
descriptor_in us a d es fs n id iw b absent h g =
    next_puts 1 2 us (shown.Text d) (shown.NameType a d) es fs (utf8 d fs) (λ m gs. put (entry.NameType n m) gs) g (utf8_in us d fs id g.refer)
    (λ m gs k l. put_gives us (shown.NameType a d) (entry.NameType n m) es gs iw b absent (grows_then 1 us es fs gs g l) refl (omega arith) tt (λ f s. refl) refl
    (and_true _ _ (text_held gs n a (holds_then 1 us fs gs n (shown.Text a) l h)) (text_held gs m d k)))

name_type_in : (us : List Shown) (a d : List ℕ) (es : List Entry) → Among (shown.Text a) us × Among (shown.Text d) us × Among (shown.NameType a d) us → ReferRight es es → Puts 2 us (shown.NameType a d) es (name_type a d es)
unfolding name_type
name_type_in us a d es i b =
    let w = shown.NameType a d in
    or_found 2 us w es (after (utf8 a es) (λ n fs. after (utf8 d fs) (λ m gs. put (entry.NameType n m) gs))) (least w es) refl b
    (λ absent. then_puts 1 2 us (shown.Text a) w es (utf8 a es) (λ n fs. after (utf8 d fs) (λ m gs. put (entry.NameType n m) gs)) b (utf8_in us a es i.0 b)
    (λ n fs h g. descriptor_in us a d es fs n i.1 i.2 b absent h g))

-- a member that shows w, where its class and its name with its descriptor are there
record Makes (w : Shown) (c a d : List ℕ) (made : ℕ → ℕ → Entry) : Type 0 where
  rank_w : rank_of w ≡ 2
  ranks : (n m : ℕ) → rank (made n m) ≡ 2
  solid : (n m : ℕ) → GapsRight (made n m ∷ [])
  sized : (n m : ℕ) (f : List ℕ → ℕ) (k : ℕ) → size_of f k (made n m) ≡ cost f k w
  unit : cost one 1 w ≡ 1
  show : (fs : List Entry) (n m : ℕ) → Holds fs n (shown.Class c) → Holds fs m (shown.NameType a d) → shows fs w (made n m) ≡ true

member_put : (us : List Shown) (w : Shown) (c a d : List ℕ) (made : ℕ → ℕ → Entry) (es fs gs : List Entry) (n m : ℕ) → Makes w c a d made → Among w us → ReferRight es es → least w es ≡ None →
    Holds fs n (shown.Class c) → Grows 2 us es fs → Holds gs m (shown.NameType a d) → Grows 2 us fs gs → Puts 3 us w es (put (made n m) gs)
member_put us w c a d made es fs gs n m k iw b absent h g l q =
    let both = grows_then 2 us es fs gs g q in
    let first = holds_then 2 us fs gs n (shown.Class c) q h in
    let all : Grows (rank_of w) us es gs = subst (λ r. Grows r us es gs) (sym k.rank_w) both in
    subst (λ r. Puts (suc r) us w es (put (made n m) gs)) k.rank_w
    (put_gives us w (made n m) es gs iw b absent all (k.ranks n m ∙ sym k.rank_w) (omega (arith, k.ranks n m)) (k.solid n m) (k.sized n m) k.unit (k.show gs n m first l))

member_in : (us : List Shown) (w : Shown) (c a d : List ℕ) (made : ℕ → ℕ → Entry) (es : List Entry) → Makes w c a d made →
    Among (shown.Text c) us × Among (shown.Class c) us → Among (shown.Text a) us × Among (shown.Text d) us × Among (shown.NameType a d) us → Among w us → ReferRight es es → least w es ≡ None →
    Puts 3 us w es (after (class c es) (λ n fs. after (name_type a d fs) (λ m gs. put (made n m) gs)))
member_in us w c a d made es k ic ia iw b absent =
    then_puts 2 3 us (shown.Class c) w es (class c es) (λ n fs. after (name_type a d fs) (λ m gs. put (made n m) gs)) b (class_in us c es ic b)
    (λ n fs h g. next_puts 2 3 us (shown.NameType a d) w es fs (name_type a d fs) (λ m gs. put (made n m) gs) g (name_type_in us a d fs ia g.refer)
    (λ m gs l q. member_put us w c a d made es fs gs n m k iw b absent h g l q))

a_field : (c a d : List ℕ) → Makes (shown.Field c a d) c a d entry.Field
a_field c a d = record { rank_w = refl; ranks = λ n m. refl; solid = λ n m. tt; sized = λ n m f k. refl; unit = refl; show = λ fs n m h k. member_held fs n m c a d h k }

a_method : (c a d : List ℕ) → Makes (shown.Method c a d) c a d entry.Method
a_method c a d = record { rank_w = refl; ranks = λ n m. refl; solid = λ n m. tt; sized = λ n m f k. refl; unit = refl; show = λ fs n m h k. member_held fs n m c a d h k }

field_in : (us : List Shown) (c a d : List ℕ) (es : List Entry) → Covered us (shown.Field c a d) → ReferRight es es → Puts 3 us (shown.Field c a d) es (field c a d es)
unfolding field
field_in us c a d es i b =
    let w = shown.Field c a d in
    or_found 3 us w es (after (class c es) (λ n fs. after (name_type a d fs) (λ m gs. put (entry.Field n m) gs))) (least w es) refl b
    (member_in us w c a d entry.Field es (a_field c a d) i.0 i.1 i.2 b)

method_in : (us : List Shown) (c a d : List ℕ) (es : List Entry) → Covered us (shown.Method c a d) → ReferRight es es → Puts 3 us (shown.Method c a d) es (method c a d es)
unfolding method
method_in us c a d es i b =
    let w = shown.Method c a d in
    or_found 3 us w es (after (class c es) (λ n fs. after (name_type a d fs) (λ m gs. put (entry.Method n m) gs))) (least w es) refl b
    (member_in us w c a d entry.Method es (a_method c a d) i.0 i.1 i.2 b)

integer_in : (us : List Shown) (n : ℕ) (es : List Entry) → Among (shown.Integer n) us → ReferRight es es → Puts 1 us (shown.Integer n) es (integer n es)
unfolding integer
integer_in us n es i b =
    or_found 1 us (shown.Integer n) es (put (entry.Integer n) es) (least (shown.Integer n) es) refl b
    (λ absent. put_gives us (shown.Integer n) (entry.Integer n) es es i b absent (grows_self 0 us es b) refl (omega arith) tt (λ f k. refl) refl (eq-eqb n n refl))

two_grow : (us : List Shown) (n : ℤ) (es : List Entry) → Among (shown.Long n) us → ReferRight es es → least (shown.Long n) es ≡ None → Holds (es ++ entry.Long n ∷ entry.Gap ∷ []) (length es + 1) (shown.Long n) →
    Grows 1 us es (es ++ entry.Long n ∷ entry.Gap ∷ [])
two_grow us n es i b absent holds =
    let more = entry.Long n ∷ entry.Gap ∷ [] in
    record {
      stays = (more, refl, (omega arith, (omega arith, tt)), tt);
      refer = every_append (es ++ more) es more (every_more es more es b) (refl, (refl, tt));
      kept = λ f k. omega (arith, left_drops f k us (shown.Long n) es more i absent (held_found (shown.Long n) (es ++ more) (length es + 1) holds), size_append f k es more);
    }

long_by : (t : Bool) (us : List Shown) (n : ℤ) (es : List Entry) → ltb 65532 (length es) ≡ t → 2 ≤ left one 1 us es → Holds (es ++ entry.Long n ∷ entry.Gap ∷ []) (length es + 1) (shown.Long n) → Grows 1 us es (es ++ entry.Long n ∷ entry.Gap ∷ []) →
    Puts 1 us (shown.Long n) es (cond t None (Some (length es + 1, es ++ entry.Long n ∷ entry.Gap ∷ [])))
long_by true us n es t some h g = omega (arith, ltb-true 65532 (length es) t, some)
long_by false us n es t some h g = (h, g)

long_put : (us : List Shown) (n : ℤ) (es : List Entry) → Among (shown.Long n) us → ReferRight es es → least (shown.Long n) es ≡ None → Puts 1 us (shown.Long n) es (put_two (entry.Long n) es)
long_put us n es i b absent =
    let more = entry.Long n ∷ entry.Gap ∷ [] in
    let show : shows (es ++ entry.Long n ∷ []) (shown.Long n) (entry.Long n) ≡ true = (Decides-int_eq n n).1 refl in
    let one_holds : Holds (es ++ entry.Long n ∷ []) (length es + 1) (shown.Long n) = last_holds (shown.Long n) (entry.Long n) es show in
    let holds : Holds (es ++ more) (length es + 1) (shown.Long n) =
    subst (λ q. Holds q (length es + 1) (shown.Long n)) (append_assoc es (entry.Long n ∷ []) (entry.Gap ∷ [])) (holds_more (es ++ entry.Long n ∷ []) (entry.Gap ∷ []) (length es + 1) (shown.Long n) one_holds) in
    long_by (ltb 65532 (length es)) us n es refl (omega (arith, left_some one 1 us (shown.Long n) es i absent)) holds (two_grow us n es i b absent holds)

long_in : (us : List Shown) (n : ℤ) (es : List Entry) → Among (shown.Long n) us → ReferRight es es → Puts 1 us (shown.Long n) es (long n es)
unfolding long
long_in us n es i b = or_found 1 us (shown.Long n) es (put_two (entry.Long n) es) (least (shown.Long n) es) refl b (long_put us n es i b)

puts_more : (m n : ℕ) (us : List Shown) (w : Shown) (es : List Entry) (r : Entered) → m ≤ n → Puts m us w es r → Puts n us w es r
puts_more m n us w es None le p = p
puts_more m n us w es (Some r) le p = (p.0, grows_more m n us es r.1 le p.1)

pub enters : (us : List Shown) (w : Shown) (es : List Entry) → Covered us w → ReferRight es es → Puts 3 us w es (enter w es)
enters us (shown.Text t) es i b = puts_more 1 3 us (shown.Text t) es (utf8 t es) (omega arith) (utf8_in us t es i b)
enters us (shown.Integer n) es i b = puts_more 1 3 us (shown.Integer n) es (integer n es) (omega arith) (integer_in us n es i b)
enters us (shown.Long n) es i b = puts_more 1 3 us (shown.Long n) es (long n es) (omega arith) (long_in us n es i b)
enters us (shown.Class t) es i b = puts_more 2 3 us (shown.Class t) es (class t es) (omega arith) (class_in us t es i b)
enters us (shown.Str t) es i b = puts_more 2 3 us (shown.Str t) es (string t es) (omega arith) (string_in us t es i b)
enters us (shown.NameType a d) es i b = puts_more 2 3 us (shown.NameType a d) es (name_type a d es) (omega arith) (name_type_in us a d es i b)
enters us (shown.Field c a d) es i b = field_in us c a d es i b
enters us (shown.Method c a d) es i b = method_in us c a d es i b

-- ---- a call alone: its universe is itself with its parts

parts_covered : (w : Shown) → Covered (with_parts w) w
parts_covered (shown.Text t) = inl refl
parts_covered (shown.Integer n) = inl refl
parts_covered (shown.Long n) = inl refl
parts_covered (shown.Class t) = (inl refl, inr (inl refl))
parts_covered (shown.Str t) = (inl refl, inr (inl refl))
parts_covered (shown.NameType a d) = (inl refl, inr (inl refl), inr (inr (inl refl)))
parts_covered (shown.Field c a d) = ((inl refl, inr (inl refl)), (inr (inr (inl refl)), inr (inr (inr (inl refl))), inr (inr (inr (inr (inl refl))))), inr (inr (inr (inr (inr (inl refl))))))
parts_covered (shown.Method c a d) = ((inl refl, inr (inl refl)), (inr (inr (inl refl)), inr (inr (inr (inl refl))), inr (inr (inr (inr (inl refl))))), inr (inr (inr (inr (inr (inl refl))))))

parts_weigh : (w : Shown) → weight one 1 (with_parts w) ≡ entries_for w
parts_weigh (shown.Text t) = refl
parts_weigh (shown.Integer n) = refl
parts_weigh (shown.Long n) = refl
parts_weigh (shown.Class t) = refl
parts_weigh (shown.Str t) = refl
parts_weigh (shown.NameType a d) = refl
parts_weigh (shown.Field c a d) = refl
parts_weigh (shown.Method c a d) = refl

-- ---- what a call did that was not refused

abbrev entered : ℕ × List Entry → Entered
entered r = Some r

same_entered : (p q : ℕ × List Entry) → entered p ≡ entered q → p ≡ q
same_entered p q e = cc

abbrev Did : List Shown → Shown → List Entry → ℕ × List Entry → Type 0
Did us w es r = Holds r.1 r.0 w × Grows 3 us es r.1

done_by : (us : List Shown) (w : Shown) (es : List Entry) (o : Entered) (r : ℕ × List Entry) → Puts 3 us w es o → o ≡ entered r → Did us w es r
done_by us w es None r p e = absurd cc
done_by us w es (Some q) r p e = subst (Did us w es) (same_entered q r e) p

pub done : (w : Shown) (es fs : List Entry) (i : ℕ) → ReferRight es es → enter w es ≡ Some (i, fs) → Holds fs i w × Grows 3 (with_parts w) es fs
done w es fs i b e = done_by (with_parts w) w es (enter w es) (i, fs) (enters (with_parts w) w es (parts_covered w) b) e

pub few_more : (w : Shown) (es fs : List Entry) (i : ℕ) → ReferRight es es → enter w es ≡ Some (i, fs) → length fs ≤ length es + entries_for w
few_more w es fs i b e =
    let g = (done w es fs i b e).1 in
    omega (arith, g.kept one 1, size_one es, size_one fs, left_at_most one 1 (with_parts w) es, parts_weigh w)

pub gaps_more : (w : Shown) (es fs : List Entry) (i : ℕ) → ReferRight es es → GapsRight es → enter w es ≡ Some (i, fs) → GapsRight fs
gaps_more w es fs i b gaps e =
    let g = (done w es fs i b e).1 in
    subst GapsRight (sym g.stays.1) (shaped_append es g.stays.0 gaps g.stays.3)

-- ---- texts that are too long are counted, and there is none

abbrev long_by_one : Bool → ℕ
long_by_one true = 1
long_by_one false = 0

abbrev longs : List ℕ → ℕ
longs t = long_by_one (ltb 65535 (modified_len t))

none_long : (t : List ℕ) → modified_len t ≤ 65535 → longs t ≡ 0
none_long t le = rw (le-ltb 65535 (modified_len t) le) refl

not_long_by : (n : ℕ) (b : Bool) → ltb 65535 n ≡ b → long_by_one b ≡ 0 → n ≤ 65535
not_long_by n true t e = absurd cc
not_long_by n false t e = ltb-false 65535 n t

not_long : (t : List ℕ) → longs t ≡ 0 → modified_len t ≤ 65535
not_long t e = not_long_by (modified_len t) (ltb 65535 (modified_len t)) refl e

short_size : (es : List Entry) → AreShort es → size longs 0 es ≡ 0
short_size [] h = refl
short_size (entry.Utf8 t ∷ es) h = omega (arith, none_long t h.0, short_size es h.1)
short_size (entry.Integer n ∷ es) h = omega (arith, short_size es h)
short_size (entry.Float n ∷ es) h = omega (arith, short_size es h)
short_size (entry.Long n ∷ es) h = omega (arith, short_size es h)
short_size (entry.Double n ∷ es) h = omega (arith, short_size es h)
short_size (entry.Class n ∷ es) h = omega (arith, short_size es h)
short_size (entry.Str n ∷ es) h = omega (arith, short_size es h)
short_size (entry.Field a b ∷ es) h = omega (arith, short_size es h)
short_size (entry.Method a b ∷ es) h = omega (arith, short_size es h)
short_size (entry.Interface a b ∷ es) h = omega (arith, short_size es h)
short_size (entry.NameType a b ∷ es) h = omega (arith, short_size es h)
short_size (entry.Gap ∷ es) h = omega (arith, short_size es h)

size_short : (es : List Entry) → size longs 0 es ≡ 0 → AreShort es
size_short [] h = tt
size_short (entry.Utf8 t ∷ es) h = (not_long t (omega (arith, h)), size_short es (omega (arith, h)))
size_short (entry.Integer n ∷ es) h = size_short es (omega (arith, h))
size_short (entry.Float n ∷ es) h = size_short es (omega (arith, h))
size_short (entry.Long n ∷ es) h = size_short es (omega (arith, h))
size_short (entry.Double n ∷ es) h = size_short es (omega (arith, h))
size_short (entry.Class n ∷ es) h = size_short es (omega (arith, h))
size_short (entry.Str n ∷ es) h = size_short es (omega (arith, h))
size_short (entry.Field a b ∷ es) h = size_short es (omega (arith, h))
size_short (entry.Method a b ∷ es) h = size_short es (omega (arith, h))
size_short (entry.Interface a b ∷ es) h = size_short es (omega (arith, h))
size_short (entry.NameType a b ∷ es) h = size_short es (omega (arith, h))
size_short (entry.Gap ∷ es) h = size_short es (omega (arith, h))

short_weight : (w : Shown) → IsShort w → weight longs 0 (with_parts w) ≡ 0
short_weight (shown.Text t) h = rw (none_long t h) refl
short_weight (shown.Integer n) h = refl
short_weight (shown.Long n) h = refl
short_weight (shown.Class t) h = rw (none_long t h) refl
short_weight (shown.Str t) h = rw (none_long t h) refl
short_weight (shown.NameType a b) h = rw (none_long a h.0, none_long b h.1) refl
short_weight (shown.Field c a b) h = rw (none_long c h.0, none_long a h.1, none_long b h.2) refl
short_weight (shown.Method c a b) h = rw (none_long c h.0, none_long a h.1, none_long b h.2) refl

pub short_more : (w : Shown) (es fs : List Entry) (i : ℕ) → ReferRight es es → AreShort es → IsShort w → enter w es ≡ Some (i, fs) → AreShort fs
short_more w es fs i b short fits e =
    let g = (done w es fs i b e).1 in
    size_short fs (omega (arith, g.kept longs 0, short_size es short, left_at_most longs 0 (with_parts w) es, short_weight w fits))
