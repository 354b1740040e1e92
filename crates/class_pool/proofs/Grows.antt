-- The index of a pool under growth and under a cut.
use Rattle.std.proofs.Common.{◌≡◌, ◌⊎◌, ℕ, zero, suc, ◌+◌, ◌<◌, ◌≤◌, Bool, true, false, cond, List, [], ◌∷◌, ◌++◌, length, take, drop, Option, Some, None, refl, sym, ap, subst, ◌∙◌, inl, inr, arith, length-append}
use Rattle.std.specs.Prelude.{slice_get, IfSome}
use Rattle.std.specs.Global.{Vec}
use Rattle.std.specs.Option.{is_some}
use Rattle.std.specs.Str.{bytes_eq}
use Rattle.std.specs.BTreeMap.{insert_entry}
use Rattle.std.proofs.lemmas.List.{take-append-drop, length-take}
use Rattle.std.proofs.lemmas.Slice.Eq.{bytes_eq-Decides}
use Rattle.class_pool.specs.declared.entry.Entry.{Entry}
use Rattle.class_pool.specs.declared.entry.Entry.TheVariants as entry
use Rattle.class_pool.specs.declared.shown.Shown.{Shown}
use Rattle.class_pool.specs.declared.pool.Pool.TheInside.{Inside}
use Rattle.class_pool.specs.Entries.{entry_at}
use Rattle.class_pool.specs.Showing.{shows, passes, first_from, least, Holds}
use Rattle.class_pool.specs.Index.{key, IsSound, hint, verified, verified_by, IsBelow, AreBackward, IsKept, entries_of}
use Rattle.class_pool.proofs.Firsts.{some, Agree, first_agree, verified_agree, or_else, first_more, verified_more, same_hint, at_last, kept, least_passes}
use Rattle.class_pool.proofs.Shows.{same_shows, still_shows, below_shown, one_shown, gap_shows}
use Rattle.class_pool.proofs.Keys.{one_key}
use Rattle.class_pool.proofs.Maps.{vec_cmp, at, at_put}

-- ---- references to earlier entries

get_more : (es : List Entry) (e x : Entry) (i : ℕ) → slice_get (es ++ e ∷ []) i ≡ Some x → (slice_get es i ≡ Some x) ⊎ ((i ≡ length es) × (e ≡ x))
get_more [] e x zero h = inr (refl, cc)
get_more [] e x (suc i) h = absurd cc
get_more (y ∷ es) e x zero h = inl h
get_more (y ∷ es) e x (suc i) h = elim (get_more es e x i h) [ inl k ↦ inl k | inr k ↦ inr (ap suc k.0, k.1) ]

pub backward_more : (es : List Entry) (e : Entry) → AreBackward es → IsBelow (length es) e → AreBackward (es ++ e ∷ [])
backward_more es e b h i x w =
    elim (get_more es e x i w) [
      | inl k ↦ b i x k
      | inr k ↦ subst (λ (n : ℕ). IsBelow n x) (sym k.0) (subst (IsBelow (length es)) k.1 h)
    ]

get_of_take : (n : ℕ) (es : List Entry) (i : ℕ) (x : Entry) → slice_get (take n es) i ≡ Some x → slice_get es i ≡ Some x
get_of_take zero es zero x h = absurd cc
get_of_take zero es (suc i) x h = absurd cc
get_of_take (suc n) [] zero x h = absurd cc
get_of_take (suc n) [] (suc i) x h = absurd cc
get_of_take (suc n) (y ∷ es) zero x h = h
get_of_take (suc n) (y ∷ es) (suc i) x h = get_of_take n es i x h

pub backward_take : (n : ℕ) (es : List Entry) → AreBackward es → AreBackward (take n es)
backward_take n es b i x h = b i x (get_of_take n es i x h)

get_within : (es : List Entry) (i : ℕ) (x : Entry) → slice_get es i ≡ Some x → i < length es
get_within [] zero x h = absurd cc
get_within [] (suc i) x h = absurd cc
get_within (y ∷ es) zero x h = omega arith
get_within (y ∷ es) (suc i) x h = omega (arith, get_within es i x h)

below_more : (a b : ℕ) (x : Entry) → a ≤ b → IsBelow a x → IsBelow b x
below_more a b (entry.Class n) le h = omega (arith, le, h)
below_more a b (entry.Str n) le h = omega (arith, le, h)
below_more a b (entry.NameType n d) le h = (omega (arith, le, h.0), omega (arith, le, h.1))
below_more a b (entry.Field n d) le h = (omega (arith, le, h.0), omega (arith, le, h.1))
below_more a b (entry.Method n d) le h = (omega (arith, le, h.0), omega (arith, le, h.1))
below_more a b (entry.Interface n d) le h = (omega (arith, le, h.0), omega (arith, le, h.1))
below_more a b _ le h = tt

-- in a pool that grows, the entries that were there show what they showed
pub agree_front : (es more : List Entry) (w : Shown) → AreBackward es → Agree (shows (es ++ more) w) (shows es w) es
agree_front es more w b i x h = same_shows es more w x b (below_more i (length es) x (omega (arith, get_within es i x h)) (b i x h))

-- ---- one more entry

least_front : (es more : List Entry) (w : Shown) → AreBackward es → first_from (shows (es ++ more) w) 1 es ≡ least w es
least_front es more w b = first_agree _ _ 1 es (agree_front es more w b)

verified_front : (es more : List Entry) (w : Shown) (h : Option ℕ) → AreBackward es → verified_by (shows (es ++ more) w) es h ≡ verified es w h
verified_front es more w h b = verified_agree _ _ es h (agree_front es more w b)

or_none : (o : Option ℕ) → or_else o None ≡ o
or_none None = refl
or_none (Some i) = refl

pub least_more : (es : List Entry) (e : Entry) (w : Shown) → AreBackward es → least w (es ++ e ∷ []) ≡ or_else (least w es) (cond (shows (es ++ e ∷ []) w e) (some (1 + length es)) None)
least_more es e w b =
    first_more (shows (es ++ e ∷ []) w) 1 e es ∙ ap (λ (o : Option ℕ). or_else o (cond (shows (es ++ e ∷ []) w e) (some (1 + length es)) None)) (least_front es (e ∷ []) w b)

-- an entry that doesn't show it
pub unseen : (es : List Entry) (e : Entry) (w : Shown) (h : Option ℕ) → AreBackward es → shows (es ++ e ∷ []) w e ≡ false → verified es w h ≡ least w es → verified (es ++ e ∷ []) w h ≡ least w (es ++ e ∷ [])
unseen es e w h b other so_far =
    verified_more (shows (es ++ e ∷ []) w) e es h other ∙ verified_front es (e ∷ []) w h b ∙ so_far ∙ sym (least_more es e w b ∙ rw other (or_none (least w es)))

-- an entry that shows it, where it is the first
pub seen_first : (es : List Entry) (e : Entry) (w : Shown) → AreBackward es → shows (es ++ e ∷ []) w e ≡ true → least w es ≡ None → verified (es ++ e ∷ []) w (some (length es + 1)) ≡ least w (es ++ e ∷ [])
seen_first es e w b here absent =
    let right : least w (es ++ e ∷ []) ≡ some (1 + length es) = least_more es e w b ∙ rw (absent, here) refl in
    let looked : passes (shows (es ++ e ∷ []) w) (entry_at (es ++ e ∷ []) (length es + 1)) ≡ true = ap (passes (shows (es ++ e ∷ []) w)) (at_last e es) ∙ here in
    rw looked (ap some (omega arith)) ∙ sym right

-- an entry that shows what an earlier one shows
pub seen_again : (es : List Entry) (e : Entry) (w : Shown) (h : Option ℕ) (i : ℕ) → AreBackward es → least w es ≡ Some i → verified es w h ≡ least w es → verified (es ++ e ∷ []) w h ≡ least w (es ++ e ∷ [])
seen_again es e w h i b there so_far =
    same_hint (shows (es ++ e ∷ []) w) e es h i (verified_front es (e ∷ []) w h b ∙ so_far ∙ there) ∙ sym (least_more es e w b ∙ rw there refl)

-- ---- what a pool keeps

abbrev Kept : List Entry → Shown → Option ℕ → Type 0
Kept es w h = verified es w h ≡ least w es

keys_same : (w v : Shown) → w ≡ v → bytes_eq (key w) (key v) ≡ true
keys_same w v e = (bytes_eq-Decides (key w) (key v)).1 (ap key e)

other_false : (es : List Entry) (e : Entry) (w v : Shown) (b : Bool) → shows es w e ≡ b → shows es v e ≡ true → bytes_eq (key w) (key v) ≡ false → b ≡ false
other_false es e w v true p q differ = let k : true ≡ false = sym (keys_same w v (one_shown es w v e p q)) ∙ differ in absurd cc
other_false es e w v false p q differ = refl

-- a new entry, whose key is put into the index
grown_by : (es : List Entry) (e : Entry) (w v : Shown) (h : Option ℕ) (same : Bool) → bytes_eq (key w) (key v) ≡ same → AreBackward es → IsSound w → IsSound v → shows es v e ≡ true → least v es ≡ None → Kept es w h
    → Kept (es ++ e ∷ []) w (cond same (some (length es + 1)) h)
grown_by es e w v h true same b p q here absent so_far =
    let is : v ≡ w = sym (one_key w v p q ((bytes_eq-Decides (key w) (key v)).0 same)) in
    seen_first es e w b (subst (λ (u : Shown). shows (es ++ e ∷ []) u e ≡ true) is (still_shows es (e ∷ []) v e here)) (subst (λ (u : Shown). least u es ≡ None) is absent)
grown_by es e w v h false differ b p q here absent so_far =
    unseen es e w h b (other_false (es ++ e ∷ []) e w v _ refl (still_shows es (e ∷ []) v e here) differ) so_far

-- a new entry that shows what is there already
known_by : (es : List Entry) (e : Entry) (w v : Shown) (h : Option ℕ) (i : ℕ) (here : Bool) → shows (es ++ e ∷ []) w e ≡ here → AreBackward es → shows es v e ≡ true → least v es ≡ Some i → Kept es w h → Kept (es ++ e ∷ []) w h
known_by es e w v h i true now b here there so_far =
    let is : v ≡ w = one_shown (es ++ e ∷ []) v w e (still_shows es (e ∷ []) v e here) now in
    seen_again es e w h i b (subst (λ (u : Shown). least u es ≡ Some i) is there) so_far
known_by es e w v h i false now b here there so_far = unseen es e w h b now so_far

pub known : (p q : Inside) (e : Entry) (v : Shown) (i : ℕ) → IsKept p → q.entries.items ≡ p.entries.items ++ e ∷ [] → q.indexed ≡ p.indexed → q.index.entries ≡ p.index.entries → length p.entries.items < 65534
    → shows p.entries.items v e ≡ true → least v p.entries.items ≡ Some i → IsKept q
known p q e v i k grew on map few here there =
    record {
      few = rw grew (omega (arith, few, length-append p.entries.items (e ∷ [])));
      backward = λ o. subst AreBackward (sym grew) (backward_more p.entries.items e (k.backward (sym on ∙ o)) (below_shown p.entries.items v e here));
      finds = λ o w s.
          (let b = k.backward (sym on ∙ o) in
          let so_far : Kept (p.entries.items ++ e ∷ []) w (hint p (key w)) = known_by p.entries.items e w v (hint p (key w)) i _ refl b here there (k.finds (sym on ∙ o) w s) in
          let looked : hint q (key w) ≡ hint p (key w) = ap (at (key w)) map in
          subst (λ (fs : List Entry). Kept fs w (hint q (key w))) (sym grew) (subst (Kept (p.entries.items ++ e ∷ []) w) (sym looked) so_far));
    }

pub grown : (p q : Inside) (e : Entry) (v : Shown) (k : Vec ℕ) (n : ℕ) → IsKept p → q.entries.items ≡ p.entries.items ++ e ∷ [] → q.indexed ≡ p.indexed → k.items ≡ key v → n ≡ length p.entries.items + 1
    → q.index.entries ≡ insert_entry vec_cmp p.index.entries k n → length p.entries.items < 65534 → IsSound v → shows p.entries.items v e ≡ true → least v p.entries.items ≡ None → IsKept q
grown p q e v k n kept_p grew on is value put few sound here absent =
    record {
      few = rw grew (omega (arith, few, length-append p.entries.items (e ∷ [])));
      backward = λ o. subst AreBackward (sym grew) (backward_more p.entries.items e (kept_p.backward (sym on ∙ o)) (below_shown p.entries.items v e here));
      finds = λ o w s.
          (let b = kept_p.backward (sym on ∙ o) in
          let so_far : Kept (p.entries.items ++ e ∷ []) w (cond (bytes_eq (key w) (key v)) (some (length p.entries.items + 1)) (hint p (key w))) =
          grown_by p.entries.items e w v (hint p (key w)) _ refl b s sound here absent (kept_p.finds (sym on ∙ o) w s) in
          let looked : hint q (key w) ≡ cond (bytes_eq (key w) (key v)) (some (length p.entries.items + 1)) (hint p (key w)) =
          ap (at (key w)) put ∙ at_put (key w) k n p.index.entries ∙ ap (λ (u : List ℕ). cond (bytes_eq (key w) u) (some n) (hint p (key w))) is ∙ ap (λ (m : ℕ). cond (bytes_eq (key w) (key v)) (some m) (hint p (key w))) value in
          subst (λ (fs : List Entry). Kept fs w (hint q (key w))) (sym grew) (subst (Kept (p.entries.items ++ e ∷ []) w) (sym looked) so_far));
    }

-- a gap behind a long
pub gapped : (p q : Inside) → IsKept p → q.entries.items ≡ p.entries.items ++ entry.Gap ∷ [] → q.indexed ≡ p.indexed → q.index.entries ≡ p.index.entries → length p.entries.items < 65534 → IsKept q
gapped p q k grew on map few =
    record {
      few = rw grew (omega (arith, few, length-append p.entries.items (entry.Gap ∷ [])));
      backward = λ o. subst AreBackward (sym grew) (backward_more p.entries.items entry.Gap (k.backward (sym on ∙ o)) tt);
      finds = λ o w s.
          (let b = k.backward (sym on ∙ o) in
          let so_far : Kept (p.entries.items ++ entry.Gap ∷ []) w (hint p (key w)) = unseen p.entries.items entry.Gap w (hint p (key w)) b (gap_shows (p.entries.items ++ entry.Gap ∷ []) w) (k.finds (sym on ∙ o) w s) in
          let looked : hint q (key w) ≡ hint p (key w) = ap (at (key w)) map in
          subst (λ (fs : List Entry). Kept fs w (hint q (key w))) (sym grew) (subst (Kept (p.entries.items ++ entry.Gap ∷ []) w) (sym looked) so_far));
    }

-- ---- a cut

cut_kept : (n : ℕ) (es : List Entry) (w : Shown) (h : Option ℕ) → AreBackward es → Kept es w h → Kept (take n es) w h
cut_kept n es w h b so_far =
    let whole : take n es ++ drop n es ≡ es = take-append-drop n es in
    let k = kept (shows es w) n es h so_far in
    let bt = backward_take n es b in
    let agree : Agree (shows es w) (shows (take n es) w) (take n es) = subst (λ (fs : List Entry). Agree (shows fs w) (shows (take n es) w) (take n es)) whole (agree_front (take n es) (drop n es) w bt) in
    sym (verified_agree (shows es w) (shows (take n es) w) (take n es) h agree) ∙ k ∙ first_agree (shows es w) (shows (take n es) w) 1 (take n es) agree

pub shortened : (p q : Inside) (n : ℕ) → IsKept p → q.entries.items ≡ take n p.entries.items → q.indexed ≡ p.indexed → q.index.entries ≡ p.index.entries → IsKept q
shortened p q n k short on map =
    record {
      few = rw short (omega (arith, k.few, length-take n p.entries.items));
      backward = λ o. subst AreBackward (sym short) (backward_take n p.entries.items (k.backward (sym on ∙ o)));
      finds = λ o w s.
          (let looked : hint q (key w) ≡ hint p (key w) = ap (at (key w)) map in
          subst (λ (fs : List Entry). Kept fs w (hint q (key w))) (sym short) (subst (Kept (take n p.entries.items) w) (sym looked) (cut_kept n p.entries.items w (hint p (key w)) (k.backward (sym on ∙ o)) (k.finds (sym on ∙ o) w s))));
    }

-- ---- what a look-up finds

pub looked : (p : Inside) (w : Shown) (v o : Option ℕ) (j k : List ℕ) (es : List Entry) → IsKept p → p.indexed ≡ true → IsSound w → k ≡ key w → j ≡ k → o ≡ hint p j → es ≡ p.entries.items → v ≡ verified es w o → v ≡ least w p.entries.items
looked p w v o j k es kept_p on sound ik ij io ies iv =
    iv ∙ ap (λ (fs : List Entry). verified fs w o) ies ∙ ap (verified p.entries.items w) (io ∙ ap (hint p) (ij ∙ ik)) ∙ kept_p.finds on w sound

pub least_holds : (w : Shown) (es : List Entry) (i : ℕ) → least w es ≡ Some i → Holds es i w
least_holds w es i e = least_passes (shows es w) i es e

pub held_of : (w : Shown) (es : List Entry) (o : Option ℕ) → o ≡ least w es → IfSome o (λ i. Holds es i w)
held_of w es None e = tt
held_of w es (Some i) e = least_holds w es i (sym e)

-- the same entries and the same index
pub unchanged : (p q : Inside) → IsKept p → q.entries.items ≡ p.entries.items → q.indexed ≡ p.indexed → q.index.entries ≡ p.index.entries → IsKept q
unchanged p q k same on map =
    record {
      few = rw same k.few;
      backward = λ o. subst AreBackward (sym same) (k.backward (sym on ∙ o));
      finds = λ o w s.
          (let looked : hint q (key w) ≡ hint p (key w) = ap (at (key w)) map in
          subst (λ (fs : List Entry). Kept fs w (hint q (key w))) (sym same) (subst (Kept p.entries.items w) (sym looked) (k.finds (sym on ∙ o) w s)));
    }

pub new_holds : (es fs : List Entry) (e : Entry) (w : Shown) (i : ℕ) → fs ≡ es ++ e ∷ [] → i ≡ length es + 1 → shows es w e ≡ true → Holds fs i w
new_holds es fs e w i grew is h =
    let k : Holds (es ++ e ∷ []) (length es + 1) w = ap (passes (shows (es ++ e ∷ []) w)) (at_last e es) ∙ still_shows es (e ∷ []) w e h in
    subst (λ (gs : List Entry). Holds gs i w) (sym grew) (subst (λ (n : ℕ). Holds (es ++ e ∷ []) n w) (sym is) k)

known_with : (p q : Inside) (e : Entry) (v : Shown) (o : Option ℕ) → IsKept p → q.entries.items ≡ p.entries.items ++ e ∷ [] → q.indexed ≡ p.indexed → q.index.entries ≡ p.index.entries → length p.entries.items < 65534
    → shows p.entries.items v e ≡ true → o ≡ least v p.entries.items → is_some o ≡ true → IsKept q
known_with p q e v None k grew on map few here found some = absurd cc
known_with p q e v (Some i) k grew on map few here found some = known p q e v i k grew on map few here (sym found)

pub known_at : (p q : Inside) (e : Entry) (v : Shown) (es : List Entry) (o : Option ℕ) (b : Bool) → entries_of p ≡ es → IsKept p → q.entries.items ≡ p.entries.items ++ e ∷ [] → q.indexed ≡ p.indexed → q.index.entries ≡ p.index.entries
    → length p.entries.items < 65534 → shows es v e ≡ true → o ≡ least v es → b ≡ is_some o → b ≡ true → IsKept q
known_at p q e v es o b is k grew on map few here found test some =
    known_with p q e v o k grew on map few (subst (λ (fs : List Entry). shows fs v e ≡ true) (sym is) here) (found ∙ ap (least v) (sym is)) (sym test ∙ some)

none_of : (o : Option ℕ) → is_some o ≡ false → o ≡ None
none_of None h = refl
none_of (Some i) h = absurd cc

pub grown_at : (p q : Inside) (e : Entry) (v : Shown) (es : List Entry) (o : Option ℕ) (b : Bool) (k : Vec ℕ) (n : ℕ) → entries_of p ≡ es → IsKept p → q.entries.items ≡ p.entries.items ++ e ∷ [] → q.indexed ≡ p.indexed → k.items ≡ key v
    → n ≡ length p.entries.items + 1 → q.index.entries ≡ insert_entry vec_cmp p.index.entries k n → length p.entries.items < 65534 → IsSound v → shows es v e ≡ true → o ≡ least v es → b ≡ is_some o → b ≡ false → IsKept q
grown_at p q e v es o b k n is kept_p grew on keyed value put few sound here found test none =
    grown p q e v k n kept_p grew on keyed value put few sound (subst (λ (fs : List Entry). shows fs v e ≡ true) (sym is) here) (ap (least v) is ∙ sym found ∙ none_of o (sym test ∙ none))
