-- What entries show while a pool grows.
use Rattle.std.proofs.Common.{◌≡◌, ℕ, zero, suc, ◌+◌, ◌<◌, ◌≤◌, Bool, true, false, ◌&&◌, List, [], ◌∷◌, ◌++◌, length, take, drop, Option, Some, None, refl, sym, ap, subst, ◌∙◌, inl, inr, arith}
use Rattle.std.specs.Prelude.{ℤ, slice_get}
use Rattle.std.proofs.lemmas.Bool.{cases_lt}
use Rattle.std.proofs.lemmas.Bool.Decides.{Decides-int_eq}
use Rattle.std.proofs.lemmas.List.{take-append-drop}
use Rattle.std.proofs.lemmas.Slice.Eq.{bytes_eq-Decides}
use Rattle.std.proofs.lemmas.Bool.{eqb-true, eq-eqb}
use Rattle.class_pool.specs.declared.entry.Entry.{Entry}
use Rattle.class_pool.specs.declared.entry.Entry.TheVariants as entry
use Rattle.class_pool.specs.declared.shown.Shown.{Shown}
use Rattle.class_pool.specs.declared.shown.Shown.TheVariants as shown
use Rattle.class_pool.specs.Entries.{entry_at}
use Rattle.class_pool.specs.Showing.{is_text, is_class_of, is_pair_of, shows, passes, Holds, text_shown, class_shown, name_shown, descriptor_shown, with_text, resolved}
use Rattle.class_pool.specs.Index.{IsBelow, AreBackward}
use Rattle.class_pool.proofs.Firsts.{get_front, at_suc}

pub both : (a b : Bool) → (a && b) ≡ true → (a ≡ true) × (b ≡ true)
both true b e = (refl, e)
both false b e = absurd cc

pub and_true : (a b : Bool) → a ≡ true → b ≡ true → (a && b) ≡ true
and_true a b e f = rw (e, f) refl

-- ---- the entry at an index

get_past : (es : List Entry) (i : ℕ) → length es ≤ i → slice_get es i ≡ None
get_past [] zero le = refl
get_past [] (suc i) le = refl
get_past (x ∷ es) zero le = absurd (omega (arith, le))
get_past (x ∷ es) (suc i) le = get_past es i (omega (arith, le))

pub at_past : (es : List Entry) (n : ℕ) → length es < n → entry_at es n ≡ None
at_past es zero lt = absurd (omega (arith, lt))
at_past es (suc n) lt = at_suc es n ∙ get_past es n (omega (arith, lt))

pub at_front : (es more : List Entry) (n : ℕ) → n ≤ length es → entry_at (es ++ more) n ≡ entry_at es n
at_front es more zero le = refl
at_front es more (suc n) le = at_suc (es ++ more) n ∙ get_front es more n (omega (arith, le)) ∙ sym (at_suc es n)

-- ---- an entry that passes is within

pub text_in : (t : List ℕ) (es : List Entry) (n : ℕ) → is_text t (entry_at es n) ≡ true → n ≤ length es
text_in t es n h =
    elim (cases_lt (length es) n) [
      | inl lt ↦ let none : is_text t (entry_at es n) ≡ false = ap (is_text t) (at_past es n lt) in let k : true ≡ false = sym h ∙ none in absurd cc
      | inr le ↦ le
    ]

pub class_in : (t : List ℕ) (es : List Entry) (n : ℕ) → is_class_of es t (entry_at es n) ≡ true → n ≤ length es
class_in t es n h =
    elim (cases_lt (length es) n) [
      | inl lt ↦ let none : is_class_of es t (entry_at es n) ≡ false = ap (is_class_of es t) (at_past es n lt) in let k : true ≡ false = sym h ∙ none in absurd cc
      | inr le ↦ le
    ]

pub pair_in : (t u : List ℕ) (es : List Entry) (n : ℕ) → is_pair_of es t u (entry_at es n) ≡ true → n ≤ length es
pair_in t u es n h =
    elim (cases_lt (length es) n) [
      | inl lt ↦ let none : is_pair_of es t u (entry_at es n) ≡ false = ap (is_pair_of es t u) (at_past es n lt) in let k : true ≡ false = sym h ∙ none in absurd cc
      | inr le ↦ le
    ]

-- What shows something refers to entries that are there.
pub below_shown : (es : List Entry) (w : Shown) (x : Entry) → shows es w x ≡ true → IsBelow (length es) x
below_shown es (shown.Text t) (entry.Utf8 u) h = tt
below_shown es (shown.Integer n) (entry.Integer m) h = tt
below_shown es (shown.Long n) (entry.Long m) h = tt
below_shown es (shown.Class t) (entry.Class n) h = text_in t es n h
below_shown es (shown.Str t) (entry.Str n) h = text_in t es n h
below_shown es (shown.NameType t u) (entry.NameType n d) h = let b = both _ _ h in (text_in t es n b.0, text_in u es d b.1)
below_shown es (shown.Field c t u) (entry.Field n d) h = let b = both _ _ h in (class_in c es n b.0, pair_in t u es d b.1)
below_shown es (shown.Method c t u) (entry.Method n d) h = let b = both _ _ h in (class_in c es n b.0, pair_in t u es d b.1)
below_shown es _ _ h = absurd cc

-- ---- what is shown stays shown

text_still : (t : List ℕ) (es more : List Entry) (n : ℕ) → is_text t (entry_at es n) ≡ true → is_text t (entry_at (es ++ more) n) ≡ true
text_still t es more n h = ap (is_text t) (at_front es more n (text_in t es n h)) ∙ h

class_still_by : (t : List ℕ) (es more : List Entry) (o : Option Entry) → is_class_of es t o ≡ true → is_class_of (es ++ more) t o ≡ true
class_still_by t es more (Some (entry.Class n)) h = text_still t es more n h
class_still_by t es more _ h = absurd cc

class_still : (t : List ℕ) (es more : List Entry) (n : ℕ) → is_class_of es t (entry_at es n) ≡ true → is_class_of (es ++ more) t (entry_at (es ++ more) n) ≡ true
class_still t es more n h = ap (is_class_of (es ++ more) t) (at_front es more n (class_in t es n h)) ∙ class_still_by t es more (entry_at es n) h

pair_still_by : (t u : List ℕ) (es more : List Entry) (o : Option Entry) → is_pair_of es t u o ≡ true → is_pair_of (es ++ more) t u o ≡ true
pair_still_by t u es more (Some (entry.NameType n d)) h = let b = both _ _ h in and_true _ _ (text_still t es more n b.0) (text_still u es more d b.1)
pair_still_by t u es more _ h = absurd cc

pair_still : (t u : List ℕ) (es more : List Entry) (n : ℕ) → is_pair_of es t u (entry_at es n) ≡ true → is_pair_of (es ++ more) t u (entry_at (es ++ more) n) ≡ true
pair_still t u es more n h = ap (is_pair_of (es ++ more) t u) (at_front es more n (pair_in t u es n h)) ∙ pair_still_by t u es more (entry_at es n) h

pub still_shows : (es more : List Entry) (w : Shown) (x : Entry) → shows es w x ≡ true → shows (es ++ more) w x ≡ true
still_shows es more (shown.Text t) (entry.Utf8 u) h = h
still_shows es more (shown.Integer n) (entry.Integer m) h = h
still_shows es more (shown.Long n) (entry.Long m) h = h
still_shows es more (shown.Class t) (entry.Class n) h = text_still t es more n h
still_shows es more (shown.Str t) (entry.Str n) h = text_still t es more n h
still_shows es more (shown.NameType t u) (entry.NameType n d) h = let b = both _ _ h in and_true _ _ (text_still t es more n b.0) (text_still u es more d b.1)
still_shows es more (shown.Field c t u) (entry.Field n d) h = let b = both _ _ h in and_true _ _ (class_still c es more n b.0) (pair_still t u es more d b.1)
still_shows es more (shown.Method c t u) (entry.Method n d) h = let b = both _ _ h in and_true _ _ (class_still c es more n b.0) (pair_still t u es more d b.1)
still_shows es more _ _ h = absurd cc

passes_within : (p : Entry → Bool) (es : List Entry) (n : ℕ) → passes p (entry_at es n) ≡ true → n ≤ length es
passes_within p es n h =
    elim (cases_lt (length es) n) [
      | inl lt ↦ let none : passes p (entry_at es n) ≡ false = ap (passes p) (at_past es n lt) in let k : true ≡ false = sym h ∙ none in absurd cc
      | inr le ↦ le
    ]

passes_still : (es more : List Entry) (w : Shown) (o : Option Entry) → passes (shows es w) o ≡ true → passes (shows (es ++ more) w) o ≡ true
passes_still es more w None h = absurd cc
passes_still es more w (Some x) h = still_shows es more w x h

pub holds_more : (es more : List Entry) (i : ℕ) (w : Shown) → Holds es i w → Holds (es ++ more) i w
holds_more es more i w h = ap (passes (shows (es ++ more) w)) (at_front es more i (passes_within (shows es w) es i h)) ∙ passes_still es more w (entry_at es i) h

-- An index holds what it held while a pool grows.
pub still_holds : (es fs : List Entry) (i : ℕ) (w : Shown) → take (length es) fs ≡ es → Holds es i w → Holds fs i w
still_holds es fs i w e h =
    let whole : es ++ drop (length es) fs ≡ fs = ap (λ (v : List Entry). v ++ drop (length es) fs) (sym e) ∙ take-append-drop (length es) fs in
    subst (λ (v : List Entry). Holds v i w) whole (holds_more es (drop (length es) fs) i w h)

-- ---- what is shown doesn't change in a pool whose entries refer to earlier ones

below_more : (a b : ℕ) (x : Entry) → a ≤ b → IsBelow a x → IsBelow b x
below_more a b (entry.Class n) le h = omega (arith, le, h)
below_more a b (entry.Str n) le h = omega (arith, le, h)
below_more a b (entry.NameType n d) le h = (omega (arith, le, h.0), omega (arith, le, h.1))
below_more a b (entry.Field n d) le h = (omega (arith, le, h.0), omega (arith, le, h.1))
below_more a b (entry.Method n d) le h = (omega (arith, le, h.0), omega (arith, le, h.1))
below_more a b (entry.Interface n d) le h = (omega (arith, le, h.0), omega (arith, le, h.1))
below_more a b _ le h = tt

held : (es : List Entry) (n : ℕ) (x : Entry) → AreBackward es → n ≤ length es → entry_at es n ≡ Some x → IsBelow (length es) x
held es zero x b le e = absurd cc
held es (suc n) x b le e = below_more n (length es) x (omega (arith, le)) (b n x (sym (at_suc es n) ∙ e))

class_same_by : (t : List ℕ) (es more : List Entry) (o : Option Entry) → ((x : Entry) → o ≡ Some x → IsBelow (length es) x) → is_class_of (es ++ more) t o ≡ is_class_of es t o
class_same_by t es more (Some (entry.Class n)) h = ap (is_text t) (at_front es more n (h (entry.Class n) refl))
class_same_by t es more _ h = refl

class_same : (t : List ℕ) (es more : List Entry) (n : ℕ) → AreBackward es → n ≤ length es → is_class_of (es ++ more) t (entry_at (es ++ more) n) ≡ is_class_of es t (entry_at es n)
class_same t es more n b le = ap (is_class_of (es ++ more) t) (at_front es more n le) ∙ class_same_by t es more (entry_at es n) (λ x e. held es n x b le e)

two_same : (a b c d : Bool) → a ≡ c → b ≡ d → (a && b) ≡ (c && d)
two_same a b c d e f = rw (e, f) refl

pair_same_by : (t u : List ℕ) (es more : List Entry) (o : Option Entry) → ((x : Entry) → o ≡ Some x → IsBelow (length es) x) → is_pair_of (es ++ more) t u o ≡ is_pair_of es t u o
pair_same_by t u es more (Some (entry.NameType n d)) h =
    let k = h (entry.NameType n d) refl in
    two_same _ _ _ _ (ap (is_text t) (at_front es more n k.0)) (ap (is_text u) (at_front es more d k.1))
pair_same_by t u es more _ h = refl

pair_same : (t u : List ℕ) (es more : List Entry) (n : ℕ) → AreBackward es → n ≤ length es → is_pair_of (es ++ more) t u (entry_at (es ++ more) n) ≡ is_pair_of es t u (entry_at es n)
pair_same t u es more n b le = ap (is_pair_of (es ++ more) t u) (at_front es more n le) ∙ pair_same_by t u es more (entry_at es n) (λ x e. held es n x b le e)

pub same_shows : (es more : List Entry) (w : Shown) (x : Entry) → AreBackward es → IsBelow (length es) x → shows (es ++ more) w x ≡ shows es w x
same_shows es more (shown.Class t) (entry.Class n) b h = ap (is_text t) (at_front es more n h)
same_shows es more (shown.Str t) (entry.Str n) b h = ap (is_text t) (at_front es more n h)
same_shows es more (shown.NameType t u) (entry.NameType n d) b h = two_same _ _ _ _ (ap (is_text t) (at_front es more n h.0)) (ap (is_text u) (at_front es more d h.1))
same_shows es more (shown.Field c t u) (entry.Field n d) b h = two_same _ _ _ _ (class_same c es more n b h.0) (pair_same t u es more d b h.1)
same_shows es more (shown.Method c t u) (entry.Method n d) b h = two_same _ _ _ _ (class_same c es more n b h.0) (pair_same t u es more d b h.1)
same_shows es more _ _ b h = refl

-- ---- parts that were entered

text_held_by : (es : List Entry) (t : List ℕ) (o : Option Entry) → passes (shows es (shown.Text t)) o ≡ true → is_text t o ≡ true
text_held_by es t (Some (entry.Utf8 u)) h = h
text_held_by es t _ h = absurd cc

pub text_held : (es : List Entry) (n : ℕ) (t : List ℕ) → Holds es n (shown.Text t) → is_text t (entry_at es n) ≡ true
text_held es n t h = text_held_by es t (entry_at es n) h

class_held_by : (es : List Entry) (t : List ℕ) (o : Option Entry) → passes (shows es (shown.Class t)) o ≡ true → is_class_of es t o ≡ true
class_held_by es t (Some (entry.Class n)) h = h
class_held_by es t _ h = absurd cc

pair_held_by : (es : List Entry) (t u : List ℕ) (o : Option Entry) → passes (shows es (shown.NameType t u)) o ≡ true → is_pair_of es t u o ≡ true
pair_held_by es t u (Some (entry.NameType n d)) h = h
pair_held_by es t u _ h = absurd cc

pub member_held : (es : List Entry) (c n : ℕ) (owner t u : List ℕ) → Holds es c (shown.Class owner) → Holds es n (shown.NameType t u) → (is_class_of es owner (entry_at es c) && is_pair_of es t u (entry_at es n)) ≡ true
member_held es c n owner t u h k = and_true _ _ (class_held_by es owner (entry_at es c) h) (pair_held_by es t u (entry_at es n) k)

pub text_put : (es : List Entry) (n : ℕ) (t : List ℕ) (w : Shown) → w ≡ shown.Class t → Holds es n (shown.Text t) → shows es w (entry.Class n) ≡ true
text_put es n t w is h = rw is (text_held es n t h)

pub string_put : (es : List Entry) (n : ℕ) (t : List ℕ) (w : Shown) → w ≡ shown.Str t → Holds es n (shown.Text t) → shows es w (entry.Str n) ≡ true
string_put es n t w is h = rw is (text_held es n t h)

-- the parts of a name with its type, the first of them entered before the pool grew
pub pair_put : (es fs : List Entry) (n d : ℕ) (t u : List ℕ) (w : Shown) → w ≡ shown.NameType t u → take (length es) fs ≡ es → Holds es n (shown.Text t) → Holds fs d (shown.Text u) → shows fs w (entry.NameType n d) ≡ true
pair_put es fs n d t u w is e h k = rw is (and_true _ _ (text_held fs n t (still_holds es fs n (shown.Text t) e h)) (text_held fs d u k))

pub field_put : (es fs : List Entry) (c n : ℕ) (owner t u : List ℕ) (w : Shown) → w ≡ shown.Field owner t u → take (length es) fs ≡ es → Holds es c (shown.Class owner) → Holds fs n (shown.NameType t u) → shows fs w (entry.Field c n) ≡ true
field_put es fs c n owner t u w is e h k = rw is (member_held fs c n owner t u (still_holds es fs c (shown.Class owner) e h) k)

pub method_put : (es fs : List Entry) (c n : ℕ) (owner t u : List ℕ) (w : Shown) → w ≡ shown.Method owner t u → take (length es) fs ≡ es → Holds es c (shown.Class owner) → Holds fs n (shown.NameType t u) → shows fs w (entry.Method c n) ≡ true
method_put es fs c n owner t u w is e h k = rw is (member_held fs c n owner t u (still_holds es fs c (shown.Class owner) e h) k)

-- ---- an entry shows one thing

abbrev a_text : List ℕ → Option (List ℕ)
a_text t = Some t

abbrev a_shown : Shown → Option Shown
a_shown w = Some w

text_is : (t : List ℕ) (o : Option Entry) → is_text t o ≡ true → text_shown o ≡ Some t
text_is t (Some (entry.Utf8 u)) h = ap a_text (sym ((bytes_eq-Decides t u).0 h))
text_is t _ h = absurd cc

class_is : (es : List Entry) (t : List ℕ) (o : Option Entry) → is_class_of es t o ≡ true → class_shown es o ≡ Some t
class_is es t (Some (entry.Class n)) h = text_is t (entry_at es n) h
class_is es t _ h = absurd cc

pair_is : (es : List Entry) (t u : List ℕ) (o : Option Entry) → is_pair_of es t u o ≡ true → (name_shown es o ≡ Some t) × (descriptor_shown es o ≡ Some u)
pair_is es t u (Some (entry.NameType n d)) h = let b = both _ _ h in (text_is t (entry_at es n) b.0, text_is u (entry_at es d) b.1)
pair_is es t u _ h = absurd cc

pub shown_is : (es : List Entry) (w : Shown) (x : Entry) → shows es w x ≡ true → resolved es x ≡ Some w
shown_is es (shown.Text t) (entry.Utf8 u) h = ap (λ (v : List ℕ). a_shown (shown.Text v)) (sym ((bytes_eq-Decides t u).0 h))
shown_is es (shown.Integer n) (entry.Integer m) h = ap (λ (k : ℕ). a_shown (shown.Integer k)) (sym (eqb-true n m h))
shown_is es (shown.Long n) (entry.Long m) h = ap (λ (k : ℤ). a_shown (shown.Long k)) (sym ((Decides-int_eq n m).0 h))
shown_is es (shown.Class t) (entry.Class n) h = ap (λ (o : Option (List ℕ)). with_text o (λ v. Some (shown.Class v))) (text_is t (entry_at es n) h)
shown_is es (shown.Str t) (entry.Str n) h = ap (λ (o : Option (List ℕ)). with_text o (λ v. Some (shown.Str v))) (text_is t (entry_at es n) h)
shown_is es (shown.NameType t u) (entry.NameType n d) h = let b = both _ _ h in rw (text_is t (entry_at es n) b.0, text_is u (entry_at es d) b.1) refl
shown_is es (shown.Field c t u) (entry.Field n d) h = let b = both _ _ h in let k = pair_is es t u (entry_at es d) b.1 in rw (class_is es c (entry_at es n) b.0, k.0, k.1) refl
shown_is es (shown.Method c t u) (entry.Method n d) h = let b = both _ _ h in let k = pair_is es t u (entry_at es d) b.1 in rw (class_is es c (entry_at es n) b.0, k.0, k.1) refl
shown_is es _ _ h = absurd cc

pub one_shown : (es : List Entry) (w v : Shown) (x : Entry) → shows es w x ≡ true → shows es v x ≡ true → w ≡ v
one_shown es w v x p q = let k : a_shown w ≡ a_shown v = sym (shown_is es w x p) ∙ shown_is es v x q in cc

-- ---- and what it resolves to it shows

text_back : (t : List ℕ) (o : Option Entry) → text_shown o ≡ Some t → is_text t o ≡ true
text_back t (Some (entry.Utf8 u)) h = (bytes_eq-Decides t u).1 (let same : u ≡ t = cc in sym same)
text_back t _ h = absurd cc

class_back : (es : List Entry) (t : List ℕ) (o : Option Entry) → class_shown es o ≡ Some t → is_class_of es t o ≡ true
class_back es t (Some (entry.Class n)) h = text_back t (entry_at es n) h
class_back es t _ h = absurd cc

pair_back : (es : List Entry) (t u : List ℕ) (o : Option Entry) → name_shown es o ≡ Some t → descriptor_shown es o ≡ Some u → is_pair_of es t u o ≡ true
pair_back es t u (Some (entry.NameType n d)) h k = and_true _ _ (text_back t (entry_at es n) h) (text_back u (entry_at es d) k)
pair_back es t u _ h k = absurd cc

-- the text that was there
record HasText (o : Option (List ℕ)) (f : List ℕ → Option Shown) (w : Shown) : Type 0 where
  text : List ℕ
  there : o ≡ Some text
  then_is : f text ≡ Some w

has_text : (o : Option (List ℕ)) (f : List ℕ → Option Shown) (w : Shown) → with_text o f ≡ Some w → HasText o f w
has_text None f w e = absurd cc
has_text (Some t) f w e = record { text = t; there = refl; then_is = e }

is_shown : (v w : Shown) → a_shown v ≡ Some w → v ≡ w
is_shown v w e = cc

pub resolved_shows : (es : List Entry) (x : Entry) (w : Shown) → resolved es x ≡ Some w → shows es w x ≡ true
resolved_shows es (entry.Utf8 t) w e = subst (λ v. shows es v (entry.Utf8 t) ≡ true) (is_shown (shown.Text t) w e) ((bytes_eq-Decides t t).1 refl)
resolved_shows es (entry.Integer n) w e = subst (λ v. shows es v (entry.Integer n) ≡ true) (is_shown (shown.Integer n) w e) (eq-eqb n n refl)
resolved_shows es (entry.Long n) w e = subst (λ v. shows es v (entry.Long n) ≡ true) (is_shown (shown.Long n) w e) ((Decides-int_eq n n).1 refl)
resolved_shows es (entry.Class n) w e =
    let a = has_text (text_shown (entry_at es n)) (λ t. Some (shown.Class t)) w e in
    subst (λ v. shows es v (entry.Class n) ≡ true) (is_shown (shown.Class a.text) w a.then_is) (text_back a.text (entry_at es n) a.there)
resolved_shows es (entry.Str n) w e =
    let a = has_text (text_shown (entry_at es n)) (λ t. Some (shown.Str t)) w e in
    subst (λ v. shows es v (entry.Str n) ≡ true) (is_shown (shown.Str a.text) w a.then_is) (text_back a.text (entry_at es n) a.there)
resolved_shows es (entry.NameType n d) w e =
    let a = has_text (text_shown (entry_at es n)) (λ t. with_text (text_shown (entry_at es d)) (λ u. Some (shown.NameType t u))) w e in
    let b = has_text (text_shown (entry_at es d)) (λ u. Some (shown.NameType a.text u)) w a.then_is in
    subst (λ v. shows es v (entry.NameType n d) ≡ true) (is_shown (shown.NameType a.text b.text) w b.then_is) (and_true _ _ (text_back a.text (entry_at es n) a.there) (text_back b.text (entry_at es d) b.there))
resolved_shows es (entry.Field n d) w e =
    let a = has_text (class_shown es (entry_at es n)) (λ c. with_text (name_shown es (entry_at es d)) (λ t. with_text (descriptor_shown es (entry_at es d)) (λ u. Some (shown.Field c t u)))) w e in
    let b = has_text (name_shown es (entry_at es d)) (λ t. with_text (descriptor_shown es (entry_at es d)) (λ u. Some (shown.Field a.text t u))) w a.then_is in
    let c = has_text (descriptor_shown es (entry_at es d)) (λ u. Some (shown.Field a.text b.text u)) w b.then_is in
    subst (λ v. shows es v (entry.Field n d) ≡ true) (is_shown (shown.Field a.text b.text c.text) w c.then_is) (and_true _ _ (class_back es a.text (entry_at es n) a.there) (pair_back es b.text c.text (entry_at es d) b.there c.there))
resolved_shows es (entry.Method n d) w e =
    let a = has_text (class_shown es (entry_at es n)) (λ c. with_text (name_shown es (entry_at es d)) (λ t. with_text (descriptor_shown es (entry_at es d)) (λ u. Some (shown.Method c t u)))) w e in
    let b = has_text (name_shown es (entry_at es d)) (λ t. with_text (descriptor_shown es (entry_at es d)) (λ u. Some (shown.Method a.text t u))) w a.then_is in
    let c = has_text (descriptor_shown es (entry_at es d)) (λ u. Some (shown.Method a.text b.text u)) w b.then_is in
    subst (λ v. shows es v (entry.Method n d) ≡ true) (is_shown (shown.Method a.text b.text c.text) w c.then_is) (and_true _ _ (class_back es a.text (entry_at es n) a.there) (pair_back es b.text c.text (entry_at es d) b.there c.there))
resolved_shows es _ w e = absurd cc

shows_by_gap : (es : List Entry) (w : Shown) → shows es w entry.Gap ≡ false
shows_by_gap es (shown.Text t) = refl
shows_by_gap es (shown.Integer n) = refl
shows_by_gap es (shown.Long n) = refl
shows_by_gap es (shown.Class t) = refl
shows_by_gap es (shown.Str t) = refl
shows_by_gap es (shown.NameType t u) = refl
shows_by_gap es (shown.Field c t u) = refl
shows_by_gap es (shown.Method c t u) = refl

pub gap_shows : (es : List Entry) (w : Shown) → shows es w entry.Gap ≡ false
gap_shows es w = shows_by_gap es w
