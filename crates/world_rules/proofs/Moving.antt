-- Views of worlds whose objects have other numbers.
use Rattle.std.proofs.Common.{◌≡◌, ◌≢◌, ℕ, zero, suc, ◌+◌, ◌<◌, ◌≤◌, Bool, true, false, cond, eqb, eq-eqb, ne_eqb, nat_lt, not, if◌then◌else◌, List, [], ◌∷◌, ◌++◌, length, map, Option, Some, None, sym, refl, ap, subst, ◌∙◌, arith}
use Rattle.std.specs.Prelude.{slice_get, slice_index_or}
use Rattle.std.proofs.lemmas.Bool.{lt-ltb, le-ltb}
use Rattle.std.proofs.lemmas.List.{map-append}
use mathlib.Core.Logic.{dite}
use native.Mathlib.Decide.{ℕ_discrete, dec_le}
use Rattle.startup_rules.specs.Worlds.{World, parts, with_parts, new_list}
use Rattle.startup_rules.specs.declared.slot.Slot.{Slot}
use Rattle.startup_rules.specs.declared.slot.Slot.TheVariants as slot
use Rattle.startup_rules.specs.declared.slot.Object.{Object}
use Rattle.startup_rules.specs.declared.slot.Object.TheVariants as object
use Rattle.startup_rules.specs.Visits.{one_at, times, refs_of, refs, Visits, done, old, new}
use Rattle.startup_rules.specs.Views.{rows_of, static_refs, context_slots, roots, IsGraph, number_in, numbered, numbered_object, View, shown, IsView, HaveOneView}
use Rattle.startup_rules.proofs.CallerLemmas.{times-append, one-same, one-other, one_answer}
use Rattle.world_rules.specs.ViewLaws.{moved, moved_object, moved_option, Moved}
use Rattle.world_rules.proofs.Existing.{graph_there}

pub view_there : (w : World) → (v : View) × IsView w v
view_there w = (shown (graph_there w).0 w, record { order = (graph_there w).0; by_first_visit = (graph_there w).1; shows = refl })

pub view_is_one : (w : World) (a b : View) → IsView w a → IsView w b → a ≡ b
view_is_one w a b p q =
    let same : p.order ≡ q.order = one_answer (rows_of w) [] (roots w) p.order p.by_first_visit q.order q.by_first_visit in
    p.shows ∙ (ap (λ (l : List ℕ). shown l w) same ∙ sym q.shows)

pub alike_self : (w : World) → HaveOneView w w
alike_self w = record { view = (view_there w).0; first = (view_there w).1; second = (view_there w).1 }

pub alike_back : (w w' : World) → HaveOneView w w' → HaveOneView w' w
alike_back w w' h = record { view = h.view; first = h.second; second = h.first }

pub alike_on : (w w' w'' : World) → HaveOneView w w' → HaveOneView w' w'' → HaveOneView w w''
alike_on w w' w'' h k = record { view = h.view; first = h.first; second = subst (λ (v : View). IsView w'' v) (view_is_one w' k.view h.view k.first h.second) k.second }

-- what was visited stays so
grows : (objects : List (List Slot)) (seen todo after : List ℕ) → Visits objects seen todo after → (x : ℕ) → times x seen ≤ times x after
grows objects seen todo after (done _ _ _ none_left same) x = omega (arith, ap (times x) same)
grows objects seen todo after (old _ _ _ y ys is has rest) x = grows objects seen ys after rest x
grows objects seen todo after (new _ _ _ y ys mid is out inner rest) x =
    omega (arith, times-append x seen (y ∷ []), grows objects (seen ++ y ∷ []) (refs objects y) mid inner x, grows objects mid ys after rest x)

module _ (f : ℕ → ℕ) (w w' : World) (order : List ℕ) (m : Moved f w w' order) where
  abbrev n : ℕ
  n = length w.objects

  abbrev n' : ℕ
  n' = length w'.objects

  same_test : (x : ℕ) → nat_lt (f x) n' ≡ nat_lt x n
  same_test x = dite (dec_le n x) (λ h. le-ltb (f x) n' (m.outside x h) ∙ sym (le-ltb x n h)) (λ h. near (omega arith))
    where
      near : x < n → nat_lt (f x) n' ≡ nat_lt x n
      near h = lt-ltb (f x) n' (m.inside x h) ∙ sym (lt-ltb x n h)

  refs_moved : (ss : List Slot) → refs_of n' (map (moved f) ss) ≡ map f (refs_of n ss)
  refs_moved [] = refl
  refs_moved (slot.Null ∷ ss) = refs_moved ss
  refs_moved (slot.Bool b ∷ ss) = refs_moved ss
  refs_moved (slot.Long k ∷ ss) = refs_moved ss
  refs_moved (slot.Str t ∷ ss) = refs_moved ss
  refs_moved (slot.Obj x ∷ ss) = ap (λ (b : Bool). if b then f x ∷ refs_of n' (map (moved f) ss) else refs_of n' (map (moved f) ss)) (same_test x) ∙ by (nat_lt x n) (refs_moved ss)
    where
      by : (b : Bool) → refs_of n' (map (moved f) ss) ≡ map f (refs_of n ss) → (if b then f x ∷ refs_of n' (map (moved f) ss) else refs_of n' (map (moved f) ss)) ≡ map f (if b then x ∷ refs_of n ss else refs_of n ss)
      by true rest = ap (λ (l : List ℕ). f x ∷ l) rest
      by false rest = rest

  statics_moved : (rows : List (List Slot)) → static_refs n' (map (map (moved f)) rows) ≡ map f (static_refs n rows)
  statics_moved [] = refl
  statics_moved (row ∷ rows) = ap (λ (l : List ℕ). l ++ static_refs n' (map (map (moved f)) rows)) (refs_moved row)
      ∙ (ap (λ (l : List ℕ). map f (refs_of n row) ++ l) (statics_moved rows) ∙ sym (map-append f (refs_of n row) (static_refs n rows)))

  abbrev moved_pair : List ℕ × Slot → List ℕ × Slot
  moved_pair p = (p.0, moved f p.1)

  slots_moved : (ps : List (List ℕ × Slot)) → map (λ (p : List ℕ × Slot). p.1) (map moved_pair ps) ≡ map (moved f) (map (λ (p : List ℕ × Slot). p.1) ps)
  slots_moved [] = refl
  slots_moved (p ∷ ps) = ap (λ (l : List Slot). moved f p.1 ∷ l) (slots_moved ps)

  roots_moved : roots w' ≡ map f (roots w)
  roots_moved = ap (λ (l : List (List Slot)). static_refs n' l ++ refs_of n' (context_slots w')) m.statics
      ∙ (ap (λ (l : List ℕ). l ++ refs_of n' (context_slots w')) (statics_moved w.statics)
      ∙ (ap (λ (ps : List (List ℕ × Slot)). map f (static_refs n w.statics) ++ refs_of n' (map (λ (p : List ℕ × Slot). p.1) ps)) m.context
      ∙ (ap (λ (ss : List Slot). map f (static_refs n w.statics) ++ refs_of n' ss) (slots_moved w.context)
      ∙ (ap (λ (l : List ℕ). map f (static_refs n w.statics) ++ l) (refs_moved (context_slots w)) ∙ sym (map-append f (static_refs n w.statics) (refs_of n (context_slots w)))))))

  abbrev Among : ℕ → Type 0
  Among x = 0 < times x order

  -- the row of an object
  abbrev row_of : Option Object → List Slot
  row_of None = []
  row_of (Some x) = parts x

  row_at : (l : List Object) (x : ℕ) → slice_index_or (map parts l) x [] ≡ row_of (slice_get l x)
  row_at [] x = refl
  row_at (o ∷ l) zero = refl
  row_at (o ∷ l) (suc x) = row_at l x

  parts_moved : (x : Object) → parts (moved_object f x) ≡ map (moved f) (parts x)
  parts_moved (object.List items) = refl
  parts_moved (object.Bean k fields) = refl
  parts_moved (object.Recorder k fields) = refl

  row_moved : (o : Option Object) → row_of (moved_option f o) ≡ map (moved f) (row_of o)
  row_moved None = refl
  row_moved (Some x) = parts_moved x

  length_rows : (l : List Object) → length (map parts l) ≡ length l
  length_rows [] = refl
  length_rows (x ∷ l) = ap suc (length_rows l)

  refs_at : (x : ℕ) → Among x → refs (rows_of w') (f x) ≡ map f (refs (rows_of w) x)
  refs_at x h =
      ap (λ (k : ℕ). refs_of k (slice_index_or (rows_of w') (f x) [])) (length_rows w'.objects)
      ∙ (ap (refs_of n') (row_at w'.objects (f x) ∙ (ap row_of (m.objects x h) ∙ row_moved (slice_get w.objects x)))
      ∙ (refs_moved (row_of (slice_get w.objects x))
      ∙ ap (map f) (ap (refs_of n) (sym (row_at w.objects x)) ∙ ap (λ (k : ℕ). refs_of k (slice_index_or (rows_of w) x [])) (sym (length_rows w.objects)))))

  one_moved : (x y : ℕ) → Among x → one_at (f x) (f y) ≡ one_at x y
  one_moved x y h = dite (ℕ_discrete x y)
      (λ e. subst (λ (z : ℕ). one_at (f x) (f z) ≡ one_at x z) e (one-same (f x) ∙ sym (one-same x)))
      (λ e. one-other (f x) (f y) (λ q. e (m.apart x y h (sym q))) ∙ sym (one-other x y (λ q. e (sym q))))

  times_moved : (x : ℕ) (l : List ℕ) → Among x → times (f x) (map f l) ≡ times x l
  times_moved x [] h = refl
  times_moved x (y ∷ l) h = omega (arith, one_moved x y h, times_moved x l h)

  moved_visits : (seen todo after : List ℕ) → Visits (rows_of w) seen todo after → ((x : ℕ) → 0 < times x after → Among x) → Visits (rows_of w') (map f seen) (map f todo) (map f after)
  moved_visits seen todo after (done _ _ _ none_left same) h = done (map f seen) (map f todo) (map f after) (ap (map f) none_left) (ap (map f) same)
  moved_visits seen todo after (old _ _ _ x xs is has rest) h =
      let within : Among x = h x (omega (arith, has, grows (rows_of w) seen xs after rest x)) in
      old (map f seen) (map f todo) (map f after) (f x) (map f xs) (ap (map f) is) (omega (arith, times_moved x seen within, has)) (moved_visits seen xs after rest h)
  moved_visits seen todo after (new _ _ _ x xs mid is out inner rest) h =
      let kept : (y : ℕ) → 0 < times y mid → Among y = λ y k. h y (omega (arith, k, grows (rows_of w) mid xs after rest y)) in
      let within : Among x = kept x (omega (arith, times-append x seen (x ∷ []), one-same x, grows (rows_of w) (seen ++ x ∷ []) (refs (rows_of w) x) mid inner x)) in
      let first : Visits (rows_of w') (map f (seen ++ x ∷ [])) (map f (refs (rows_of w) x)) (map f mid) = moved_visits (seen ++ x ∷ []) (refs (rows_of w) x) mid inner kept in
      new (map f seen) (map f todo) (map f after) (f x) (map f xs) (map f mid) (ap (map f) is) (omega (arith, times_moved x seen within, out))
      (subst (λ (l : List ℕ). Visits (rows_of w') l (refs (rows_of w') (f x)) (map f mid)) (map-append f seen (x ∷ []))
      (subst (λ (l : List ℕ). Visits (rows_of w') (map f (seen ++ x ∷ [])) l (map f mid)) (sym (refs_at x within)) first))
      (moved_visits mid xs after rest h)

  -- The numbers stay.
  test_moved : (x o : ℕ) → Among x → eqb (f x) (f o) ≡ eqb x o
  test_moved x o h = dite (ℕ_discrete x o)
      (λ e. subst (λ (z : ℕ). eqb (f x) (f z) ≡ eqb x z) e (eq-eqb (f x) (f x) refl ∙ sym (eq-eqb x x refl)))
      (λ e. ne_eqb (f x) (f o) (λ q. e (m.apart x o h q)) ∙ sym (ne_eqb x o e))

  number_from : (l : List ℕ) (o : ℕ) → ((x : ℕ) → 0 < times x l → Among x) → number_in (map f l) (f o) ≡ number_in l o
  number_from [] o h = refl
  number_from (x ∷ l) o h =
      ap (λ (b : Bool). cond (not b) (1 + number_in (map f l) (f o)) 0) (test_moved x o (h x (omega (arith, one-same x))))
      ∙ ap (λ (k : ℕ). cond (not (eqb x o)) (1 + k) 0) (number_from l o (λ y k. h y (omega arith)))

  number_moved : (o : ℕ) → number_in (map f order) (f o) ≡ number_in order o
  number_moved o = number_from order o (λ x h. h)

  slot_moved : (v : Slot) → numbered (map f order) (moved f v) ≡ numbered order v
  slot_moved slot.Null = refl
  slot_moved (slot.Bool b) = refl
  slot_moved (slot.Long k) = refl
  slot_moved (slot.Str t) = refl
  slot_moved (slot.Obj o) = ap slot.Obj (number_moved o)

  row_numbers : (ss : List Slot) → map (numbered (map f order)) (map (moved f) ss) ≡ map (numbered order) ss
  row_numbers [] = refl
  row_numbers (s ∷ ss) = ap (λ (v : Slot). v ∷ map (numbered (map f order)) (map (moved f) ss)) (slot_moved s) ∙ ap (λ (l : List Slot). numbered order s ∷ l) (row_numbers ss)

  rows_numbers : (rows : List (List Slot)) → map (map (numbered (map f order))) (map (map (moved f)) rows) ≡ map (map (numbered order)) rows
  rows_numbers [] = refl
  rows_numbers (r ∷ rows) = ap (λ (l : List Slot). l ∷ map (map (numbered (map f order))) (map (map (moved f)) rows)) (row_numbers r) ∙ ap (λ (l : List (List Slot)). map (numbered order) r ∷ l) (rows_numbers rows)

  abbrev shown_pair : List ℕ → List ℕ × Slot → List ℕ × Slot
  shown_pair order p = (p.0, numbered order p.1)

  pairs_numbers : (ps : List (List ℕ × Slot)) → map (shown_pair (map f order)) (map moved_pair ps) ≡ map (shown_pair order) ps
  pairs_numbers [] = refl
  pairs_numbers (p ∷ ps) = ap (λ (v : Slot). (p.0, v) ∷ map (shown_pair (map f order)) (map moved_pair ps)) (slot_moved p.1) ∙ ap (λ (l : List (List ℕ × Slot)). shown_pair order p ∷ l) (pairs_numbers ps)

  abbrev or_list : Option Object → Object
  or_list None = new_list
  or_list (Some x) = x

  object_at : (l : List Object) (o : ℕ) → slice_index_or l o new_list ≡ or_list (slice_get l o)
  object_at [] o = refl
  object_at (x ∷ l) zero = refl
  object_at (x ∷ l) (suc o) = object_at l o

  object_numbers : (x : Object) → numbered_object (map f order) (moved_object f x) ≡ numbered_object order x
  object_numbers (object.List items) = ap object.List (row_numbers items)
  object_numbers (object.Bean k fields) = ap (object.Bean k) (row_numbers fields)
  object_numbers (object.Recorder k fields) = ap (object.Recorder k) (row_numbers fields)

  option_numbers : (o : Option Object) → numbered_object (map f order) (or_list (moved_option f o)) ≡ numbered_object order (or_list o)
  option_numbers None = refl
  option_numbers (Some x) = object_numbers x

  one_shown : (o : ℕ) → Among o → numbered_object (map f order) (slice_index_or w'.objects (f o) new_list) ≡ numbered_object order (slice_index_or w.objects o new_list)
  one_shown o h = ap (numbered_object (map f order)) (object_at w'.objects (f o) ∙ ap or_list (m.objects o h)) ∙ (option_numbers (slice_get w.objects o) ∙ ap (numbered_object order) (sym (object_at w.objects o)))

  objects_shown : (l : List ℕ) → ((x : ℕ) → 0 < times x l → Among x) →
      map (λ (o : ℕ). numbered_object (map f order) (slice_index_or w'.objects o new_list)) (map f l) ≡ map (λ (o : ℕ). numbered_object order (slice_index_or w.objects o new_list)) l
  objects_shown [] h = refl
  objects_shown (o ∷ l) h =
      ap (λ (x : Object). x ∷ map (λ (o : ℕ). numbered_object (map f order) (slice_index_or w'.objects o new_list)) (map f l)) (one_shown o (h o (omega (arith, one-same o))))
      ∙ ap (λ (xs : List Object). numbered_object order (slice_index_or w.objects o new_list) ∷ xs) (objects_shown l (λ y k. h y (omega arith)))

  view_moved : shown order w ≡ shown (map f order) w'
  view_moved = sym (
      ap (λ (l : List (List ℕ)). record { lines = l; statics = map (map (numbered (map f order))) w'.statics; context = map (shown_pair (map f order)) w'.context; objects = map (λ (o : ℕ). numbered_object (map f order) (slice_index_or w'.objects o new_list)) (map f order) }) m.lines
      ∙ (ap (λ (l : List (List Slot)). record { lines = w.lines; statics = l; context = map (shown_pair (map f order)) w'.context; objects = map (λ (o : ℕ). numbered_object (map f order) (slice_index_or w'.objects o new_list)) (map f order) }) (ap (map (map (numbered (map f order)))) m.statics ∙ rows_numbers w.statics)
      ∙ (ap (λ (l : List (List ℕ × Slot)). record { lines = w.lines; statics = map (map (numbered order)) w.statics; context = l; objects = map (λ (o : ℕ). numbered_object (map f order) (slice_index_or w'.objects o new_list)) (map f order) }) (ap (map (shown_pair (map f order))) m.context ∙ pairs_numbers w.context)
      ∙ ap (λ (l : List Object). record { lines = w.lines; statics = map (map (numbered order)) w.statics; context = map (shown_pair order) w.context; objects = l }) (objects_shown order (λ x h. h)))))

  pub moved_view : IsGraph w order → HaveOneView w w'
  moved_view g = record {
    view = shown order w;
    first = record { order = order; by_first_visit = g; shows = refl };
    second = record {
      order = map f order;
      by_first_visit = subst (λ (l : List ℕ). Visits (rows_of w') [] l (map f order)) (sym roots_moved) (moved_visits [] (roots w) order g (λ x h. h));
      shows = view_moved;
    };
  }

pub moved_alike : (f : ℕ → ℕ) (w w' : World) (order : List ℕ) → IsGraph w order → Moved f w w' order → HaveOneView w w'
moved_alike f w w' order g m = moved_view f w w' order m g
