-- What an index holds isn't entered again.
use Rattle.std.proofs.Common.{◌≡◌, ℕ, zero, suc, ◌+◌, ◌≤◌, Bool, true, false, cond, List, [], ◌∷◌, Option, Some, refl, sym, ap, ◌∙◌, arith}
use Rattle.std.specs.Prelude.{slice_get}
use Rattle.class_pool.specs.declared.entry.Entry.{Entry}
use Rattle.class_pool.specs.declared.shown.Shown.{Shown}
use Rattle.class_pool.specs.declared.shown.Shown.TheVariants as shown
use Rattle.class_pool.specs.Showing.{shows, passes, first_from, least, Holds}
use Rattle.class_pool.specs.Enter.{Entered, found_or, enter, utf8, integer, long, class, string, name_type, field, method}
use Rattle.class_pool.proofs.Firsts.{some, at_suc, least_passes}

first_by : (p : Entry → Bool) (j n : ℕ) (es : List Entry) (b : Bool) → ((i : ℕ) × (first_from p (j + 1) es ≡ Some i) × (i ≤ j + 1 + n)) → (i : ℕ) × (cond b (some j) (first_from p (j + 1) es) ≡ Some i) × (i ≤ j + suc n)
first_by p j n es true h = (j, refl, omega arith)
first_by p j n es false h = (h.0, h.1, omega (arith, h.2))

first_here : (p : Entry → Bool) (j : ℕ) (x : Entry) (es : List Entry) (b : Bool) → p x ≡ b → b ≡ true → (i : ℕ) × (cond b (some j) (first_from p (j + 1) es) ≡ Some i) × (i ≤ j + 0)
first_here p j x es true w e = (j, refl, omega arith)
first_here p j x es false w e = absurd cc

first_is : (p : Entry → Bool) (j n : ℕ) (es : List Entry) → passes p (slice_get es n) ≡ true → (i : ℕ) × (first_from p j es ≡ Some i) × (i ≤ j + n)
first_is p j zero [] h = absurd cc
first_is p j (suc n) [] h = absurd cc
first_is p j zero (x ∷ es) h = first_here p j x es (p x) refl h
first_is p j (suc n) (x ∷ es) h = first_by p j n es (p x) (first_is p (j + 1) n es h)

least_is : (w : Shown) (es : List Entry) (i : ℕ) → Holds es i w → (j : ℕ) × (least w es ≡ Some j) × (j ≤ i)
least_is w es zero h = absurd cc
least_is w es (suc n) h =
    let g = first_is (shows es w) 1 n es (ap (passes (shows es w)) (sym (at_suc es n)) ∙ h) in
    (g.0, g.1, omega (arith, g.2))

abbrev entered_at : ℕ → List Entry → Entered
entered_at i es = Some (i, es)

found_at : (o : Option ℕ) (new : Entered) (es : List Entry) (j : ℕ) → o ≡ Some j → found_or o new es ≡ Some (j, es)
found_at o new es j e = rw e refl

enter_found : (w : Shown) (es : List Entry) (j : ℕ) → least w es ≡ Some j → enter w es ≡ Some (j, es)
unfolding utf8 integer long class string name_type field method
enter_found (shown.Text t) es j e = found_at _ _ es j e
enter_found (shown.Integer n) es j e = found_at _ _ es j e
enter_found (shown.Long n) es j e = found_at _ _ es j e
enter_found (shown.Class t) es j e = found_at _ _ es j e
enter_found (shown.Str t) es j e = found_at _ _ es j e
enter_found (shown.NameType t u) es j e = found_at _ _ es j e
enter_found (shown.Field c t u) es j e = found_at _ _ es j e
enter_found (shown.Method c t u) es j e = found_at _ _ es j e

pub entered_once : (w : Shown) (es : List Entry) (i : ℕ) → Holds es i w → (j : ℕ) × (enter w es ≡ Some (j, es)) × Holds es j w × (j ≤ i)
entered_once w es i h =
    let g = least_is w es i h in
    (g.0, enter_found w es g.0 g.1, least_passes (shows es w) g.0 es g.1, g.2)
