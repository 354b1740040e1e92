-- A walk with the rests of lists in a stack numbers objects as `Visits` says.
use Rattle.std.proofs.Common.{◌≡◌, ℕ, zero, suc, ◌+◌, ◌<◌, ◌≤◌, ◌≢◌, Bool, true, false, cond, if◌then◌else◌, List, [], ◌∷◌, ◌++◌, length, get_or, drop, set, replicate, Option, Some, None, sym, refl, ap, subst, ◌∙◌, arith, length-set, nat_lt}
use Rattle.std.specs.Prelude.{slice_get, slice_index_or}
use Rattle.std.proofs.lemmas.List.{append-nil, append_assoc, length-replicate}
use Rattle.std.proofs.lemmas.Bool.{lt-ltb, le-ltb}
use mathlib.Core.Logic.{dite}
use native.Mathlib.Decide.{ℕ_discrete, dec_le}
use Rattle.startup_rules.specs.declared.slot.Slot.{Slot}
use Rattle.startup_rules.specs.declared.slot.Slot.TheVariants.{Null, Bool as Truth, Long, Str, Obj}
use denote.Bor.{Bor}
use Rattle.startup_rules.specs.Visits.{one_at, times, refs_of, refs, Visits, done, old, new}
use Rattle.startup_rules.proofs.CallerLemmas.{times-append, one-same, one-other, cut}
use Rattle.world_graph.specs.Walks.{unless_seen, fresh_at}

-- what the lists of a stack still refer to, the last list first
abbrev pub pend : ℕ → List (List Slot) → List ℕ
pend n [] = []
pend n (f ∷ fs) = pend n fs ++ refs_of n f

pub pend-snoc : (n : ℕ) (fs : List (List Slot)) (f : List Slot) → pend n (fs ++ f ∷ []) ≡ refs_of n f ++ pend n fs
pend-snoc n [] f = sym (append-nil (refs_of n f))
pend-snoc n (g ∷ fs) f = ap (λ (l : List ℕ). l ++ refs_of n g) (pend-snoc n fs f) ∙ append_assoc (refs_of n f) (pend n fs) (refs_of n g)

abbrev pub weigh : List (List Slot) → ℕ
weigh [] = 0
weigh (f ∷ fs) = length f + 1 + weigh fs

pub weigh-snoc : (fs : List (List Slot)) (f : List Slot) → weigh (fs ++ f ∷ []) ≡ weigh fs + length f + 1
weigh-snoc [] f = omega arith
weigh-snoc (g ∷ fs) f = omega (arith, weigh-snoc fs f)

-- what the objects that were not seen weigh
abbrev pub unseen : List (List Slot) → List Bool → ℕ
unseen [] fs = 0
unseen (o ∷ os) [] = 0
unseen (o ∷ os) (true ∷ fs) = unseen os fs
unseen (o ∷ os) (false ∷ fs) = length o + 2 + unseen os fs

pub unseen-mark : (os : List (List Slot)) (fs : List Bool) (x : ℕ) → x < length os → slice_get fs x ≡ Some false → unseen os (set fs x true) + length (get_or os x []) + 2 ≡ unseen os fs
unseen-mark [] fs x h e = absurd (omega arith)
unseen-mark (o ∷ os) [] x h e = absurd (cc)
unseen-mark (o ∷ os) (false ∷ fs) zero h e = omega arith
unseen-mark (o ∷ os) (true ∷ fs) zero h e = absurd (cc)
unseen-mark (o ∷ os) (true ∷ fs) (suc x) h e = unseen-mark os fs x (omega arith) e
unseen-mark (o ∷ os) (false ∷ fs) (suc x) h e = omega (arith, unseen-mark os fs x (omega arith) e)

abbrev pub nows : List (Bor (List Slot)) → List (List Slot)
nows [] = []
nows (b ∷ bs) = b.now ∷ nows bs

pub nows-snoc : (bs : List (Bor (List Slot))) (b : Bor (List Slot)) → nows (bs ++ b ∷ []) ≡ nows bs ++ b.now ∷ []
nows-snoc [] b = refl
nows-snoc (c ∷ bs) b = ap (λ (l : List (List Slot)). c.now ∷ l) (nows-snoc bs b)

-- the objects of `order` are marked, and whatever a visit of what is to do leads to, a visit of the roots leads to
pub record At (objects : List (List Slot)) (roots : List ℕ) (flags : List Bool) (order todo : List ℕ) : Type 0 where
  pub wide : length flags ≡ length objects
  pub marked : (x : ℕ) → slice_get flags x ≡ Some true → 0 < times x order
  pub unmarked : (x : ℕ) → slice_get flags x ≡ Some false → times x order ≡ 0
  pub leads : (after : List ℕ) → Visits objects order todo after → Visits objects [] roots after

get_replicate : (n x : ℕ) (b : Bool) → slice_get (replicate n false) x ≡ Some b → b ≡ false
get_replicate zero x b h = absurd (cc)
get_replicate (suc n) zero b h = cc
get_replicate (suc n) (suc x) b h = get_replicate n x b h

get_within : (l : List Bool) (x : ℕ) (b : Bool) → slice_get l x ≡ Some b → x < length l
get_within [] x b h = absurd (cc)
get_within (y ∷ l) zero b h = omega arith
get_within (y ∷ l) (suc x) b h = omega (arith, get_within l x b h)

set_same : (l : List Bool) (x : ℕ) (c : Bool) → slice_get (set l x true) x ≡ Some c → c ≡ true
set_same [] x c h = absurd (cc)
set_same (y ∷ l) zero c h = cc
set_same (y ∷ l) (suc x) c h = set_same l x c h

set_other : (l : List Bool) (x y : ℕ) → y ≢ x → slice_get (set l x true) y ≡ slice_get l y
set_other [] x y n = refl
set_other (z ∷ l) zero zero n = absurd (n refl)
set_other (z ∷ l) zero (suc y) n = refl
set_other (z ∷ l) (suc x) zero n = refl
set_other (z ∷ l) (suc x) (suc y) n = set_other l x y (λ e. n (ap suc e))

get_past : (l : List Bool) (x : ℕ) → slice_get l x ≡ None → length l ≤ x
get_past [] x h = omega arith
get_past (y ∷ l) zero h = absurd (cc)
get_past (y ∷ l) (suc x) h = omega (arith, get_past l x h)

near : (n : ℕ) (l : List Bool) (x : ℕ) (b : Bool) → slice_get l x ≡ Some b → length l ≡ n → nat_lt x n ≡ true
near n l x b h wide = lt-ltb x n (omega (arith, get_within l x b h, wide))

pub refs_first : (n : ℕ) (s : Slot) (ss : List Slot) → refs_of n (s ∷ ss) ≡ refs_of n (s ∷ []) ++ refs_of n ss
refs_first n Null ss = refl
refs_first n (Truth b) ss = refl
refs_first n (Long k) ss = refl
refs_first n (Str t) ss = refl
refs_first n (Obj x) ss = by (nat_lt x n)
  where
    by : (b : Bool) → (if b then x ∷ refs_of n ss else refs_of n ss) ≡ (if b then x ∷ [] else []) ++ refs_of n ss
    by true = refl
    by false = refl

true_is_not_false : {X : Type 0} → true ≡ false → X
true_is_not_false h = absurd (cc)

false_is_not_true : {X : Type 0} → false ≡ true → X
false_is_not_true h = absurd (cc)

module _ (objects : List (List Slot)) (roots : List ℕ) where
  pub at_start : (flags : List Bool) (n : ℕ) → n ≡ length objects → flags ≡ replicate n false → At objects roots flags [] roots
  at_start flags n wide is = record {
    wide = ap length is ∙ (length-replicate {A = Bool} n false ∙ wide);
    marked = λ x e. true_is_not_false (get_replicate n x true (subst (λ (l : List Bool). slice_get l x ≡ Some true) is e));
    unmarked = λ x e. refl;
    leads = λ after v. v;
  }

  -- the same is to do
  pub at_same : (flags : List Bool) (order todo left : List ℕ) → todo ≡ left → At objects roots flags order todo → At objects roots flags order left
  at_same flags order todo left e a = subst (λ (l : List ℕ). At objects roots flags order l) e a

  at_old : (flags : List Bool) (order : List ℕ) (x : ℕ) (rest : List ℕ) → At objects roots flags order (x ∷ rest) → slice_get flags x ≡ Some true → At objects roots flags order rest
  at_old flags order x rest a mark = record {
    wide = a.wide;
    marked = a.marked;
    unmarked = a.unmarked;
    leads = λ after v. a.leads after (old order (x ∷ rest) after x rest refl (a.marked x mark) v);
  }

  -- a slot that leads to no fresh object is passed over
  pub at_pass : (flags : List Bool) (order : List ℕ) (s : Slot) (rest : List ℕ) → At objects roots flags order (refs_of (length objects) (s ∷ []) ++ rest) → fresh_at flags s ≡ None → At objects roots flags order rest
  at_pass flags order Null rest a none = a
  at_pass flags order (Truth b) rest a none = a
  at_pass flags order (Long k) rest a none = a
  at_pass flags order (Str t) rest a none = a
  at_pass flags order (Obj x) rest a none = by (slice_get flags x) refl none
    where
      far : slice_get flags x ≡ None → At objects roots flags order rest
      far e = let past : nat_lt x (length objects) ≡ false = le-ltb x (length objects) (omega (arith, a.wide, get_past flags x e)) in
          subst (λ (b : Bool). At objects roots flags order ((if b then x ∷ [] else []) ++ rest)) past a

      by : (o : Option Bool) → slice_get flags x ≡ o → unless_seen x o ≡ None → At objects roots flags order rest
      by None e none = far e
      by (Some true) e none = at_old flags order x rest (subst (λ (b : Bool). At objects roots flags order ((if b then x ∷ [] else []) ++ rest)) (near (length objects) flags x true e a.wide) a) e
      by (Some false) e none = absurd (cc)

  pub at_fresh : (flags : List Bool) (order : List ℕ) (s : Slot) (rest : List ℕ) (x : ℕ) → At objects roots flags order (refs_of (length objects) (s ∷ []) ++ rest) → fresh_at flags s ≡ Some x →
      At objects roots (set flags x true) (order ++ x ∷ []) (refs objects x ++ rest)
  at_fresh flags order Null rest x a is = absurd (cc)
  at_fresh flags order (Truth b) rest x a is = absurd (cc)
  at_fresh flags order (Long k) rest x a is = absurd (cc)
  at_fresh flags order (Str t) rest x a is = absurd (cc)
  at_fresh flags order (Obj y) rest x a is = by (slice_get flags y) refl is
    where
      here : slice_get flags x ≡ Some false → At objects roots flags order (x ∷ rest) → At objects roots (set flags x true) (order ++ x ∷ []) (refs objects x ++ rest)
      here free a = record {
        wide = length-set flags x true ∙ a.wide;
        marked = λ y h. dite (ℕ_discrete y x) (λ q. omega (arith, times-append y order (x ∷ []), ap (λ (z : ℕ). one_at z x) q, one-same x)) (λ n. omega (arith, times-append y order (x ∷ []), a.marked y (sym (set_other flags x y n) ∙ h)));
        unmarked = λ y h. dite (ℕ_discrete y x) (λ q. false_is_not_true (set_same flags x false (subst (λ (z : ℕ). slice_get (set flags x true) z ≡ Some false) q h)))
            (λ n. omega (arith, times-append y order (x ∷ []), one-other y x (λ q. n (sym q)), a.unmarked y (sym (set_other flags x y n) ∙ h)));
        leads = λ after v. let parts = cut objects (order ++ x ∷ []) (refs objects x ++ rest) after v (refs objects x) rest refl in
            a.leads after (new order (x ∷ rest) after x rest parts.0 refl (a.unmarked x free) parts.1 parts.2);
      }

      by : (o : Option Bool) → slice_get flags y ≡ o → unless_seen y o ≡ Some x → At objects roots (set flags x true) (order ++ x ∷ []) (refs objects x ++ rest)
      by None e is = absurd (cc)
      by (Some true) e is = absurd (cc)
      by (Some false) e is = let same : y ≡ x = cc in
          here (subst (λ (z : ℕ). slice_get flags z ≡ Some false) same e)
          (subst (λ (z : ℕ). At objects roots flags order (z ∷ rest)) same (subst (λ (b : Bool). At objects roots flags order ((if b then y ∷ [] else []) ++ rest)) (near (length objects) flags y false e a.wide) a))

  pub at_end : (flags : List Bool) (order todo : List ℕ) → At objects roots flags order todo → todo ≡ [] → Visits objects [] roots order
  at_end flags order todo a e = a.leads order (done order todo order e refl)

pub no_slots : (l : List Slot) → length l ≡ 0 → l ≡ []
no_slots [] h = refl
no_slots (x ∷ xs) h = absurd (omega arith)

pub no_lists : (l : List (Bor (List Slot))) → length l ≡ 0 → nows l ≡ []
no_lists [] h = refl
no_lists (x ∷ xs) h = absurd (omega arith)

-- a fresh object is within, and not seen
pub fresh_is_unseen : (flags : List Bool) (s : Slot) (x : ℕ) → fresh_at flags s ≡ Some x → slice_get flags x ≡ Some false
fresh_is_unseen flags Null x is = absurd (cc)
fresh_is_unseen flags (Truth b) x is = absurd (cc)
fresh_is_unseen flags (Long k) x is = absurd (cc)
fresh_is_unseen flags (Str t) x is = absurd (cc)
fresh_is_unseen flags (Obj y) x is = by (slice_get flags y) refl is
  where
    by : (o : Option Bool) → slice_get flags y ≡ o → unless_seen y o ≡ Some x → slice_get flags x ≡ Some false
    by None e is = absurd (cc)
    by (Some true) e is = absurd (cc)
    by (Some false) e is = let same : y ≡ x = cc in subst (λ (z : ℕ). slice_get flags z ≡ Some false) same e

pub fresh_is_within : (flags : List Bool) (s : Slot) (x : ℕ) → fresh_at flags s ≡ Some x → x < length flags
fresh_is_within flags s x is = get_within flags x false (fresh_is_unseen flags s x is)

-- One round of the walk, whose stack has the lists `fs` below the list f.
module _ (objects : List (List Slot)) (roots : List ℕ) (flags : List Bool) (order : List ℕ) (fs : List (List Slot)) (f : List Slot) where
  pub next_empty : f ≡ [] → At objects roots flags order (pend (length objects) (fs ++ f ∷ [])) → At objects roots flags order (pend (length objects) fs)
  next_empty e a = at_same objects roots flags order (pend (length objects) (fs ++ f ∷ [])) (pend (length objects) fs)
      (pend-snoc (length objects) fs f ∙ ap (λ (l : List Slot). refs_of (length objects) l ++ pend (length objects) fs) e) a

  -- what is to do, with the first slot apart
  apart : (s : Slot) (ss : List Slot) → f ≡ s ∷ ss → pend (length objects) (fs ++ f ∷ []) ≡ refs_of (length objects) (s ∷ []) ++ pend (length objects) (fs ++ ss ∷ [])
  apart s ss e = pend-snoc (length objects) fs f ∙ (ap (λ (l : List Slot). refs_of (length objects) l ++ pend (length objects) fs) e
      ∙ (ap (λ (l : List ℕ). l ++ pend (length objects) fs) (refs_first (length objects) s ss)
      ∙ (append_assoc (refs_of (length objects) (s ∷ [])) (refs_of (length objects) ss) (pend (length objects) fs)
      ∙ ap (λ (l : List ℕ). refs_of (length objects) (s ∷ []) ++ l) (sym (pend-snoc (length objects) fs ss)))))

  pub next_none : (s : Slot) (ss : List Slot) → f ≡ s ∷ ss → At objects roots flags order (pend (length objects) (fs ++ f ∷ [])) → fresh_at flags s ≡ None → At objects roots flags order (pend (length objects) (fs ++ ss ∷ []))
  next_none s ss e a none = at_pass objects roots flags order s (pend (length objects) (fs ++ ss ∷ []))
      (at_same objects roots flags order (pend (length objects) (fs ++ f ∷ [])) (refs_of (length objects) (s ∷ []) ++ pend (length objects) (fs ++ ss ∷ [])) (apart s ss e) a) none

  pub next_some : (s : Slot) (ss row : List Slot) (x : ℕ) → f ≡ s ∷ ss → At objects roots flags order (pend (length objects) (fs ++ f ∷ [])) → fresh_at flags s ≡ Some x → row ≡ slice_index_or objects x [] →
      At objects roots (set flags x true) (order ++ x ∷ []) (pend (length objects) ((fs ++ ss ∷ []) ++ row ∷ []))
  next_some s ss row x e a is row_is =
      at_same objects roots (set flags x true) (order ++ x ∷ []) (refs objects x ++ pend (length objects) (fs ++ ss ∷ [])) (pend (length objects) ((fs ++ ss ∷ []) ++ row ∷ []))
      (sym (pend-snoc (length objects) (fs ++ ss ∷ []) row ∙ ap (λ (l : List Slot). refs_of (length objects) l ++ pend (length objects) (fs ++ ss ∷ [])) row_is))
      (at_fresh objects roots flags order s (pend (length objects) (fs ++ ss ∷ [])) x
      (at_same objects roots flags order (pend (length objects) (fs ++ f ∷ [])) (refs_of (length objects) (s ∷ []) ++ pend (length objects) (fs ++ ss ∷ [])) (apart s ss e) a) is)

pub none_left : (o : Option ℕ) → ((x : ℕ) → o ≢ Some x) → o ≡ None
none_left None h = refl
none_left (Some x) h = absurd (h x refl)
