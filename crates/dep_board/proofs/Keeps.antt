-- Each kind of step keeps the rule.
use Rattle.std.proofs.Common.{◌≡◌, ℕ, zero, suc, ◌+◌, ◌-◌, ◌%◌, ◌^◌, ◌<◌, ◌≤◌, ◌≢◌, List, [], ◌∷◌, ◌++◌, length, get_or, set, sym, refl, ap, subst, ◌∙◌, ⊎_elim, arith, length-set, get_or-set_other, get_or-set_same}
use Rattle.std.proofs.lemmas.List.{length-append}
use mathlib.Core.Logic.{dite}
use mathlib.Core.Option.{none, some, some-ne-none}
use native.Mathlib.Decide.{ℕ_discrete, dec_le}
use lib.ListN.{get_elem?}
use lib.Seq.{set-get_or}
use Rattle.atomic_table.specs.Table.{State, step, keeps, Allows, Splits, Joins, opening}
use Rattle.atomic_table.proofs.Lists.{at_set, set_again, at_snoc}
use Rattle.dep_board.specs.declared.view.SeatView.{SeatView}
use Rattle.dep_board.specs.Counts.{total, one_at, times, last_of}
use Rattle.dep_board.specs.Edges.{producers}
use Rattle.dep_board.specs.Rule.{IsKept, all_parts, parts_in, handed_on, left_over, blank, spent, split_off, joined, with_ended, with_late, with_down, due, ended_in, told_in, down_in, downs_in}
use Rattle.dep_board.specs.Steps.{Seated, IsSound, SaysOf, looked, claimed, counted}
use Rattle.dep_board.proofs.Sums.{total-snoc, total-set, total-same, term_le, terms_le, some_has, alone}
use Rattle.dep_board.proofs.Listed.{times-append, one-same, one-other, times-snoc_other, producers-append, producers-snoc_same, producers-snoc_other, length_le, times_same, times-head, some_in, pool, pool-length, pool-times}

abbrev pub Board : Type 0
Board = State (Unit {0}) SeatView

abbrev pub with_parts : Board → List ℕ → List SeatView → Board
with_parts s ws vs = record { words = ws; homes = s.homes; views = vs }

pub due-le : (n e : ℕ) → due n e ≤ 1
due-le n zero = omega arith
due-le zero (suc e) = omega arith
due-le (suc n) (suc e) = omega arith

pub due-zero : (n e : ℕ) → 0 < due n e → n ≡ 0
due-zero n zero h = absurd (omega arith)
due-zero zero (suc e) h = refl
due-zero (suc n) (suc e) h = absurd (omega arith)

pub due-nil : (n e : ℕ) → e ≡ 0 → due n e ≡ 0
due-nil n zero h = refl
due-nil n (suc e) h = absurd (omega arith)

pub due-now : (n e : ℕ) → n ≡ 0 → 0 < e → due n e ≡ 1
due-now n zero h p = absurd (omega arith)
due-now zero (suc e) h p = refl
due-now (suc n) (suc e) h p = absurd (omega arith)

pub due-later : (n e : ℕ) → 0 < n → due n e ≡ 0
due-later n zero p = refl
due-later zero (suc e) p = absurd (omega arith)
due-later (suc n) (suc e) p = refl

pub handed_on_fits : (n : ℕ) → 1 < n → (0 < handed_on n) × (handed_on n < n)
handed_on_fits n h = (omega arith, omega arith)

module _ (steps : ℕ) (edges : List (ℕ × ℕ)) where
  pub once_ended : (s : Board) → IsKept steps edges s → (i : ℕ) (v : SeatView) → get_elem? s.views i ≡ some v → (p : ℕ) → ended_in p v ≤ 1
  once_ended s k i v me p = omega (arith, term_le (ended_in p) s.views i v me, k.single p)

  pub once_told : (s : Board) → IsKept steps edges s → (i : ℕ) (v : SeatView) → get_elem? s.views i ≡ some v → (t : ℕ) → told_in t v ≤ 1
  once_told s k i v me t = omega (arith, term_le (told_in t) s.views i v me, k.told t, due-le (get_or s.words (1 + t) 0) (length (producers t edges)))

  -- a view that has counted down each edge into a step that has one was told of it
  pub full : (s : Board) → IsKept steps edges s → (i : ℕ) (v : SeatView) → get_elem? s.views i ≡ some v → (t : ℕ) → 0 < length (producers t edges)
      → ((p : ℕ) → times p (producers t edges) ≤ down_in p t v) → 0 < told_in t v
  full s k i v me t some_edge all =
      let long = length_le (producers t edges) (producers t v.downs) all in
      let inside : t < steps = dite (dec_le steps t) (λ h. absurd (omega (arith, k.near t h))) (λ h. omega arith) in
      let empty : get_or s.words (1 + t) 0 ≡ 0 = omega (arith, k.counts t inside, term_le (downs_in t) s.views i v me) in
      let has = some_has (told_in t) s.views (omega (arith, k.told t, due-now (get_or s.words (1 + t) 0) (length (producers t edges)) empty some_edge)) in
      let j : ℕ = has.0 in let u : SeatView = has.1 in
      let p = some_in (producers t u.downs) (k.known j u has.2 t has.3) in
      dite (ℕ_discrete j i)
      (λ e. let same : get_elem? s.views i ≡ some u = subst (λ x. get_elem? s.views x ≡ some u) e has.2 in
      ⊎_elim (λ x. omega (arith, has.3, ap (told_in t) x.1)) (λ x. let n = x.0 in absurd (n refl)) (at_set s.views i i v u (ap (λ l. get_elem? l i) (set_again s.views i v me) ∙ same)))
      (λ n. absurd (omega (
        arith,
        terms_le (ended_in p.0) s.views i j v u n me has.2,
        k.single p.0,
        k.own j u has.2 p.0 t p.1,
        k.own i v me p.0 t (omega (arith, p.1, all p.0, k.downs p.0 t, term_le (down_in p.0 t) s.views j u has.2)),
      )))

  -- what only a whole pass can weigh
  pub mine_alone : (s : Board) → IsKept steps edges s → (i : ℕ) (v : SeatView) → get_elem? s.views i ≡ some v → v.parts ≡ all_parts → (g : SeatView → ℕ)
      → ((u : SeatView) → (u.ended ≡ []) × (u.downs ≡ []) → g u ≡ 0) → g spent ≡ 0 → total g s.views ≡ g v
  mine_alone s k i v me whole g none_idle none_spent =
      alone g parts_in s.views i v spent (λ j u at h. dite (dec_le 1 u.parts) (λ d. d) (λ d. absurd (omega (arith, h, none_idle u (k.idle j u at (omega arith)))))) (omega (arith, k.shares, whole)) me none_spent

  surely : (s : Board) → IsKept steps edges s → (i : ℕ) (v : SeatView) → get_elem? s.views i ≡ some v → v.parts ≡ all_parts → (t : ℕ) → 0 < told_in t v → (p : ℕ) → 0 < times p (producers t edges) → 0 < ended_in p v
  surely s k i v me whole t was_told p has =
      let empty = due-zero (get_or s.words (1 + t) 0) (length (producers t edges)) (omega (arith, term_le (told_in t) s.views i v me, k.told t)) in
      let inside : t < steps = dite (dec_le steps t) (λ h. absurd (omega (arith, k.near t h, times-head p (producers t edges) has))) (λ h. omega arith) in
      let mine = mine_alone s k i v me whole (downs_in t) (λ u e. ap (λ ds. length (producers t ds)) e.1) refl in
      let same = times_same (producers t v.downs) (producers t edges) (λ q. omega (arith, k.downs q t, term_le (down_in q t) s.views i v me)) (omega (arith, k.counts t inside, empty, mine)) p in
      k.own i v me p t (omega (arith, same, has))

  pub is_sound : (s : Board) → IsKept steps edges s → (i : ℕ) (v : SeatView) → get_elem? s.views i ≡ some v → v.edges ≡ edges → IsSound v
  is_sound s k i v me same = record {
    within = omega (arith, k.shares, term_le parts_in s.views i v me);
    sure = λ t whole was_told p has. let es = ap (λ (l : List (ℕ × ℕ)). producers t l) same in
        surely s k i v me whole t was_told p (omega (arith, has, ap (times p) es));
    once_ended = once_ended s k i v me;
    once_told = once_told s k i v me;
    full = subst (λ (es : List (ℕ × ℕ)). (t : ℕ) → 0 < length (producers t es) → ((p : ℕ) → times p (producers t es) ≤ down_in p t v) → 0 < told_in t v) (sym same) (full s k i v me);
  }

  pub is_count : (s : Board) → IsKept steps edges s → (i : ℕ) (v : SeatView) → get_elem? s.views i ≡ some v → v.edges ≡ edges → (t : ℕ) → t < steps → SaysOf v t (get_or s.words (1 + t) 0)
  is_count s k i v me same t inside = (
    omega (arith, k.counts t inside, term_le (downs_in t) s.views i v me, ap (λ (es : List (ℕ × ℕ)). length (producers t es)) same),
    λ was_told. due-zero (get_or s.words (1 + t) 0) (length (producers t edges)) (omega (arith, term_le (told_in t) s.views i v me, k.told t)),
    λ whole. omega (arith, k.counts t inside, mine_alone s k i v me whole (downs_in t) (λ u e. ap (λ ds. length (producers t ds)) e.1) refl, ap (λ (es : List (ℕ × ℕ)). length (producers t es)) same),
  )

  stays : (s : Board) → IsKept steps edges s → (i id : ℕ) (v : SeatView) → get_elem? s.views id ≡ some v → IsKept steps edges (with_parts s (set s.words i (get_or s.words i 0)) (set s.views id v))
  stays s k i id v me =
      subst (λ (ws : List ℕ). IsKept steps edges (with_parts s ws (set s.views id v))) (sym (set-get_or s.words i 0))
      (subst (λ (vs : List SeatView). IsKept steps edges (with_parts s s.words vs)) (sym (set_again s.views id v me)) k)

  pub looks : (slots id : ℕ) (m : Seated) (i : ℕ) → m.0.steps ≡ steps → m.0.edges ≡ edges → Allows (IsKept steps edges) slots id m i (λ n. n) (looked (step slots i 0 0 none) m)
  looks slots id m i is_steps is_edges s k _ me _ = (
    m.0,
    keeps,
    tt,
    stays s k i id m.0 me,
    (
      refl,
      is_sound s k id m.0 me is_edges,
      λ t inside word. subst (λ (x : ℕ). SaysOf m.0 t (get_or s.words x 0)) (sym word) (is_count s k id m.0 me is_edges t (omega arith)),
    ),
  )

  pub cuts : (id : ℕ) (v : SeatView) → 1 < v.parts → Splits (IsKept steps edges) id v (left_over v) (split_off v)
  cuts id v enough s k me =
      let hands = handed_on_fits v.parts enough in
      let new : SeatView = split_off v in let w : SeatView = left_over v in let vs : List SeatView = set s.views id w in
      let sum : (g : SeatView → ℕ) → g w ≡ g v → g new ≡ 0 → total g (vs ++ new ∷ []) ≡ total g s.views = λ g same none_new. omega (arith, total-snoc g vs new, total-same g s.views id v w me same, none_new) in
      let each : (F : SeatView → Type 0) → F w → F new → ((j : ℕ) (x : SeatView) → get_elem? s.views j ≡ some x → F x) → (j : ℕ) (x : SeatView) → get_elem? (vs ++ new ∷ []) j ≡ some x → F x
      = λ F on_w on_new on_old j x at. ⊎_elim (λ e. ⊎_elim (λ d. subst F d.1 on_w) (λ d. on_old j x d.1) (at_set s.views id j w x e)) (λ e. subst F e on_new) (at_snoc vs new x j at) in
      record {
        shares = omega (arith, k.shares, total-snoc parts_in vs new, total-set parts_in s.views id v w me, hands.0, hands.1);
        idle = each (λ x. x.parts ≡ 0 → (x.ended ≡ []) × (x.downs ≡ [])) (λ e. absurd (omega (arith, e, hands.1))) (λ e. absurd (omega (arith, e, hands.0))) k.idle;
        wide = k.wide;
        near = k.near;
        claims = λ p h. k.claims p h ∙ sym (sum (ended_in p) refl refl);
        single = λ p. omega (arith, k.single p, sum (ended_in p) refl refl);
        downs = λ p t. omega (arith, k.downs p t, sum (down_in p t) refl refl);
        own = each (λ x. (p t : ℕ) → 0 < down_in p t x → 0 < ended_in p x) (k.own id v me) (λ p t h. absurd (omega arith)) k.own;
        counts = λ t h. omega (arith, k.counts t h, sum (downs_in t) refl refl);
        told = λ t. sum (told_in t) refl refl ∙ k.told t;
        known = each (λ x. (t : ℕ) → 0 < told_in t x → 0 < downs_in t x) (k.known id v me) (λ t h. absurd (omega arith)) k.known;
        late = each (λ x. (p : ℕ) → 0 < times p x.late → get_or s.words (1 + steps + p) 0 ≡ 1) (k.late id v me) (λ p h. absurd (omega arith)) k.late;
      }

  pub joins : (id : ℕ) (v : SeatView) (other : ℕ) (u : SeatView) → Joins (IsKept steps edges) id v other u (joined v u) spent
  joins id v other u s k me apart them =
      let w : SeatView = joined v u in let vs : List SeatView = set s.views id w in
      let theirs : get_elem? s.views other ≡ some u = ⊎_elim (λ x. absurd (apart x.0)) (λ x. x.1) (at_set s.views id other w u them) in
      let sum : (g : SeatView → ℕ) → g spent ≡ 0 → g w ≡ g v + g u → total g (set vs other spent) ≡ total g s.views = λ g zero_spent adds. omega (arith, total-set g s.views id v w me, total-set g vs other u spent them, zero_spent, adds) in
      let producers_both : (t : ℕ) → producers t w.downs ≡ producers t v.downs ++ producers t u.downs = λ t. producers-append t v.downs u.downs in
      let down_both : (p t : ℕ) → down_in p t w ≡ down_in p t v + down_in p t u = λ p t. ap (times p) (producers_both t) ∙ times-append p (producers t v.downs) (producers t u.downs) in
      let downs_both : (t : ℕ) → downs_in t w ≡ downs_in t v + downs_in t u = λ t. ap length (producers_both t) ∙ length-append (producers t v.downs) (producers t u.downs) in
      -- what holds of each view, where it holds of the joined one and of the spent one
      let each : (F : SeatView → Type 0) → F w → F spent → ((j : ℕ) (x : SeatView) → get_elem? s.views j ≡ some x → F x) → (j : ℕ) (x : SeatView) → get_elem? (set vs other spent) j ≡ some x → F x
      = λ F on_w on_spent on_old j x at. ⊎_elim (λ e. subst F e.1 on_spent)
      (λ e. ⊎_elim (λ d. subst F d.1 on_w) (λ d. on_old j x d.1) (at_set s.views id j w x e.1)) (at_set vs other j spent x at) in
      record {
        shares = omega (arith, k.shares, sum parts_in refl refl);
        idle = each (λ x. x.parts ≡ 0 → (x.ended ≡ []) × (x.downs ≡ []))
            (λ e. let a = k.idle id v me (omega (arith, e)) in let b = k.idle other u theirs (omega (arith, e)) in
            (ap (λ l. l ++ u.ended) a.0 ∙ b.0, ap (λ l. l ++ u.downs) a.1 ∙ b.1))
            (λ _. (refl, refl)) k.idle;
        wide = k.wide;
        near = k.near;
        claims = λ p h. k.claims p h ∙ sym (sum (ended_in p) refl (times-append p v.ended u.ended));
        single = λ p. omega (arith, k.single p, sum (ended_in p) refl (times-append p v.ended u.ended));
        downs = λ p t. omega (arith, k.downs p t, sum (down_in p t) refl (down_both p t));
        own = each (λ x. (p t : ℕ) → 0 < down_in p t x → 0 < ended_in p x)
            (λ p t h. dite (dec_le 1 (down_in p t v)) (λ d. omega (arith, k.own id v me p t d, times-append p v.ended u.ended))
            (λ d. omega (arith, k.own other u theirs p t (omega (arith, h, down_both p t)), times-append p v.ended u.ended)))
            (λ p t h. absurd (omega arith)) k.own;
        counts = λ t h. omega (arith, k.counts t h, sum (downs_in t) refl (downs_both t));
        told = λ t. sum (told_in t) refl (times-append t v.told u.told) ∙ k.told t;
        known = each (λ x. (t : ℕ) → 0 < told_in t x → 0 < downs_in t x)
            (λ t h. dite (dec_le 1 (told_in t v)) (λ d. omega (arith, k.known id v me t d, downs_both t))
            (λ d. omega (arith, k.known other u theirs t (omega (arith, h, times-append t v.told u.told)), downs_both t)))
            (λ t h. absurd (omega arith)) k.known;
        late = each (λ x. (p : ℕ) → 0 < times p x.late → get_or s.words (1 + steps + p) 0 ≡ 1)
            (λ p h. dite (dec_le 1 (times p v.late)) (λ d. k.late id v me p d) (λ d. k.late other u theirs p (omega (arith, h, times-append p v.late u.late))))
            (λ p h. absurd (omega arith)) k.late;
      }

  won : (s : Board) → IsKept steps edges s → (id : ℕ) (v : SeatView) (p : ℕ) → get_elem? s.views id ≡ some v → 0 < v.parts → p < steps → get_or s.words (1 + steps + p) 0 ≡ 0
      → IsKept steps edges (with_parts s (set s.words (1 + steps + p) 1) (set s.views id (with_ended v p)))
  won s k id v p me some_part inside free =
      let w : SeatView = with_ended v p in let i : ℕ = 1 + steps + p in let ws : List ℕ = set s.words i 1 in
      let here : get_or ws i 0 ≡ 1 = get_or-set_same s.words i 1 0 (omega (arith, k.wide)) in
      let away : (x : ℕ) → x ≢ i → get_or ws x 0 ≡ get_or s.words x 0 = λ x n. get_or-set_other s.words i x 1 0 n in
      let each : (F : SeatView → Type 0) → F w → ((j : ℕ) (x : SeatView) → get_elem? s.views j ≡ some x → F x) → (j : ℕ) (x : SeatView) → get_elem? (set s.views id w) j ≡ some x → F x
      = λ F on_w on_old j x at. ⊎_elim (λ e. subst F e.1 on_w) (λ e. on_old j x e.1) (at_set s.views id j w x at) in
      let sums : (q : ℕ) → total (ended_in q) (set s.views id w) ≡ total (ended_in q) s.views + one_at q p
      = λ q. omega (arith, total-set (ended_in q) s.views id v w me, times-append q v.ended (p ∷ [])) in
      record {
        shares = omega (arith, k.shares, total-same parts_in s.views id v w me refl);
        idle = each (λ x. x.parts ≡ 0 → (x.ended ≡ []) × (x.downs ≡ [])) (λ e. absurd (omega (arith, e, some_part))) k.idle;
        wide = length-set s.words i 1 ∙ k.wide;
        near = k.near;
        claims = λ q h. dite (ℕ_discrete q p) (λ e. omega (arith, ap (λ (x : ℕ). get_or ws (1 + steps + x) 0) e, here, sums q, ap (λ (x : ℕ). one_at x p) e, one-same p, k.claims q h, ap (λ (x : ℕ). get_or s.words (1 + steps + x) 0) e, free))
            (λ n. omega (arith, away (1 + steps + q) (λ e. n (omega arith)), sums q, one-other q p (λ e. n (sym e)), k.claims q h));
        single = λ q. dite (ℕ_discrete q p) (λ e. omega (arith, sums q, ap (λ (x : ℕ). one_at x p) e, one-same p, k.claims q (omega arith), ap (λ (x : ℕ). get_or s.words (1 + steps + x) 0) e, free))
            (λ n. omega (arith, sums q, one-other q p (λ e. n (sym e)), k.single q));
        downs = λ q t. omega (arith, total-same (down_in q t) s.views id v w me refl, k.downs q t);
        own = each (λ x. (q t : ℕ) → 0 < down_in q t x → 0 < ended_in q x) (λ q t h. omega (arith, k.own id v me q t h, times-append q v.ended (p ∷ []))) k.own;
        counts = λ t h. omega (arith, away (1 + t) (λ e. absurd (omega arith)), total-same (downs_in t) s.views id v w me refl, k.counts t h);
        told = λ t. dite (dec_le steps t)
            (λ h. omega (arith, total-same (told_in t) s.views id v w me refl, k.told t, due-nil (get_or s.words (1 + t) 0) (length (producers t edges)) (k.near t h), due-nil (get_or ws (1 + t) 0) (length (producers t edges)) (k.near t h)))
            (λ h. total-same (told_in t) s.views id v w me refl ∙ (k.told t ∙ ap (λ (n : ℕ). due n (length (producers t edges))) (sym (away (1 + t) (λ e. absurd (omega arith))))));
        known = each (λ x. (t : ℕ) → 0 < told_in t x → 0 < downs_in t x) (k.known id v me) k.known;
        late = let still : (x : SeatView) → ((q : ℕ) → 0 < times q x.late → get_or s.words (1 + steps + q) 0 ≡ 1) → (q : ℕ) → 0 < times q x.late → get_or ws (1 + steps + q) 0 ≡ 1
            = λ x was q h. dite (ℕ_discrete q p) (λ e. ap (λ (y : ℕ). get_or ws (1 + steps + y) 0) e ∙ here) (λ n. away (1 + steps + q) (λ e. n (omega arith)) ∙ was q h) in
            each (λ x. (q : ℕ) → 0 < times q x.late → get_or ws (1 + steps + q) 0 ≡ 1) (still w (k.late id v me)) (λ j x at. still x (k.late j x at));
      }

  lost : (s : Board) → IsKept steps edges s → (id : ℕ) (v : SeatView) (p : ℕ) → get_elem? s.views id ≡ some v → get_or s.words (1 + steps + p) 0 ≡ 1
      → IsKept steps edges (with_parts s (set s.words (1 + steps + p) 1) (set s.views id (with_late v p)))
  lost s k id v p me taken =
      let w : SeatView = with_late v p in let i : ℕ = 1 + steps + p in
      let each : (F : SeatView → Type 0) → F w → ((j : ℕ) (x : SeatView) → get_elem? s.views j ≡ some x → F x) → (j : ℕ) (x : SeatView) → get_elem? (set s.views id w) j ≡ some x → F x
      = λ F on_w on_old j x at. ⊎_elim (λ e. subst F e.1 on_w) (λ e. on_old j x e.1) (at_set s.views id j w x at) in
      let same : set s.words i 1 ≡ s.words = ap (λ (n : ℕ). set s.words i n) (sym taken) ∙ set-get_or s.words i 0 in
      subst (λ (ws : List ℕ). IsKept steps edges (with_parts s ws (set s.views id w))) (sym same) (record {
        shares = omega (arith, k.shares, total-same parts_in s.views id v w me refl);
        idle = each (λ x. x.parts ≡ 0 → (x.ended ≡ []) × (x.downs ≡ [])) (k.idle id v me) k.idle;
        wide = k.wide;
        near = k.near;
        claims = λ q h. k.claims q h ∙ sym (total-same (ended_in q) s.views id v w me refl);
        single = λ q. omega (arith, k.single q, total-same (ended_in q) s.views id v w me refl);
        downs = λ q t. omega (arith, total-same (down_in q t) s.views id v w me refl, k.downs q t);
        own = each (λ x. (q t : ℕ) → 0 < down_in q t x → 0 < ended_in q x) (k.own id v me) k.own;
        counts = λ t h. omega (arith, total-same (downs_in t) s.views id v w me refl, k.counts t h);
        told = λ t. total-same (told_in t) s.views id v w me refl ∙ k.told t;
        known = each (λ x. (t : ℕ) → 0 < told_in t x → 0 < downs_in t x) (k.known id v me) k.known;
        late = each (λ x. (q : ℕ) → 0 < times q x.late → get_or s.words (1 + steps + q) 0 ≡ 1)
            (λ q h. dite (ℕ_discrete p q) (λ e. ap (λ (y : ℕ). get_or s.words (1 + steps + y) 0) (sym e) ∙ taken) (λ n. k.late id v me q (omega (arith, h, times-snoc_other q p v.late n)))) k.late;
      })

  pub claims : (slots id : ℕ) (m : Seated) (p i : ℕ) → i ≡ 1 + steps + p → p < steps → m.0.steps ≡ steps → 0 < m.0.parts → Allows (IsKept steps edges) slots id m i (λ _. 1) (claimed (step slots i 1 0 none) m)
  claims slots id m p i is inside is_steps some_part s k _ me _ =
      let at : get_or s.words i 0 ≡ get_or s.words (1 + steps + p) 0 = ap (λ (x : ℕ). get_or s.words x 0) is in
      dite (ℕ_discrete (get_or s.words i 0) 0)
      (λ free. (
        with_ended m.0 p,
        keeps,
        tt,
        subst (λ (x : ℕ). IsKept steps edges (with_parts s (set s.words x 1) (set s.views id (with_ended m.0 p)))) (sym is) (won s k id m.0 p me some_part inside (sym at ∙ free)),
        λ q word. let same : p ≡ q = omega arith in (
          (λ _. (
            omega (arith, term_le (ended_in q) s.views id m.0 me, k.claims q (omega arith), ap (λ (x : ℕ). get_or s.words (1 + steps + x) 0) same),
            ap (λ (x : ℕ). (with_ended m.0 x, m.1)) same,
          )),
          λ taken. absurd (taken free),
        ),
      ))
      (λ taken. (
        with_late m.0 p,
        keeps,
        tt,
        subst (λ (x : ℕ). IsKept steps edges (with_parts s (set s.words x 1) (set s.views id (with_late m.0 p)))) (sym is)
            (lost s k id m.0 p me (dite (ℕ_discrete (get_or s.words i 0) 1) (λ e. sym at ∙ e) (λ n. absurd (omega (arith, taken, n, at, k.claims p inside, k.single p))))),
        λ q word. let same : p ≡ q = omega arith in (
          (λ free. absurd (taken free)),
          λ _. (
            (λ whole. omega (arith, taken, at, k.claims p inside, mine_alone s k id m.0 me whole (ended_in p) (λ u e. ap (times p) e.0) refl, ap (λ (x : ℕ). times x m.0.ended) same)),
            ap (λ (x : ℕ). (with_late m.0 x, m.1)) same,
          ),
        ),
      ))

  -- where an edge is not yet counted down, its count is not 0
  pub some_left : (s : Board) → IsKept steps edges s → (id : ℕ) (v : SeatView) (p t : ℕ) → get_elem? s.views id ≡ some v → 0 < ended_in p v → down_in p t v < times p (producers t edges)
      → (total (downs_in t) s.views < length (producers t edges)) × (total (down_in p t) s.views ≡ down_in p t v)
  some_left s k id v p t me mine fresh =
      let only = alone (down_in p t) (ended_in p) s.views id v spent (λ j u at h. k.own j u at p t h) (omega (arith, k.single p, mine)) me refl in
      let more = length_le (p ∷ pool t s.views) (producers t edges)
      (λ q. dite (ℕ_discrete p q) (λ e. subst (λ (x : ℕ). times x (p ∷ pool t s.views) ≤ times x (producers t edges)) e (omega (arith, one-same p, pool-times p t s.views, only, fresh)))
      (λ n. omega (arith, one-other q p n, pool-times q t s.views, k.downs q t))) in
      (omega (arith, more, pool-length t s.views), only)

  went : (s : Board) → IsKept steps edges s → (id : ℕ) (v : SeatView) (t m : ℕ) (news : List ℕ) → get_elem? s.views id ≡ some v → 0 < v.parts → t < steps → 0 < ended_in (last_of v.ended) v
      → down_in (last_of v.ended) t v < times (last_of v.ended) (producers t edges) → get_or s.words (1 + t) 0 ≡ suc m → ((q : ℕ) → q ≢ t → times q news ≡ 0) → times t news ≡ due m 1
      → IsKept steps edges (with_parts s (set s.words (1 + t) m) (set s.views id (with_down v t news)))
  went s k id v t m news me some_part inside mine fresh was quiet loud =
      let p : ℕ = last_of v.ended in let w : SeatView = with_down v t news in let i : ℕ = 1 + t in let ws : List ℕ = set s.words i m in
      let left = some_left s k id v p t me mine fresh in
      let here : get_or ws i 0 ≡ m = get_or-set_same s.words i m 0 (omega (arith, k.wide)) in
      let away : (x : ℕ) → x ≢ i → get_or ws x 0 ≡ get_or s.words x 0 = λ x n. get_or-set_other s.words i x m 0 n in
      let each : (F : SeatView → Type 0) → F w → ((j : ℕ) (x : SeatView) → get_elem? s.views j ≡ some x → F x) → (j : ℕ) (x : SeatView) → get_elem? (set s.views id w) j ≡ some x → F x
      = λ F on_w on_old j x at. ⊎_elim (λ e. subst F e.1 on_w) (λ e. on_old j x e.1) (at_set s.views id j w x at) in
      let producers_here : producers t w.downs ≡ producers t v.downs ++ p ∷ [] = producers-snoc_same t p v.downs in
      let producers_away : (q : ℕ) → t ≢ q → producers q w.downs ≡ producers q v.downs = λ q n. producers-snoc_other q t p v.downs n in
      let down_here : (q : ℕ) → down_in q t w ≡ down_in q t v + one_at q p = λ q. omega (arith, ap (times q) producers_here, times-append q (producers t v.downs) (p ∷ [])) in
      let downs_here : downs_in t w ≡ downs_in t v + 1 = omega (arith, ap length producers_here, length-append (producers t v.downs) (p ∷ [])) in
      let told_w : (q : ℕ) → told_in q w ≡ told_in q v + times q news = λ q. times-append q v.told news in
      record {
        shares = omega (arith, k.shares, total-same parts_in s.views id v w me refl);
        idle = each (λ x. x.parts ≡ 0 → (x.ended ≡ []) × (x.downs ≡ [])) (λ e. absurd (omega (arith, e, some_part))) k.idle;
        wide = length-set s.words i m ∙ k.wide;
        near = k.near;
        claims = λ q h. away (1 + steps + q) (λ e. absurd (omega arith)) ∙ (k.claims q h ∙ sym (total-same (ended_in q) s.views id v w me refl));
        single = λ q. omega (arith, k.single q, total-same (ended_in q) s.views id v w me refl);
        downs = λ q x. dite (ℕ_discrete t x)
            (λ e. subst (λ (y : ℕ). total (down_in q y) (set s.views id w) ≤ times q (producers y edges)) e
            (dite (ℕ_discrete p q)
            (λ d. subst (λ (y : ℕ). total (down_in y t) (set s.views id w) ≤ times y (producers t edges)) d (omega (arith, total-set (down_in p t) s.views id v w me, down_here p, one-same p, left.1, fresh)))
            (λ d. omega (arith, total-set (down_in q t) s.views id v w me, down_here q, one-other q p d, k.downs q t))))
            (λ n. omega (arith, total-same (down_in q x) s.views id v w me (ap (times q) (producers_away x n)), k.downs q x));
        own = each (λ u. (q x : ℕ) → 0 < down_in q x u → 0 < ended_in q u)
            (λ q x h. dite (ℕ_discrete t x)
            (λ e. dite (ℕ_discrete p q) (λ d. subst (λ (y : ℕ). 0 < times y v.ended) d mine)
            (λ d. k.own id v me q t (omega (arith, h, ap (λ (y : ℕ). down_in q y w) e, down_here q, one-other q p d))))
            (λ n. k.own id v me q x (omega (arith, h, ap (times q) (producers_away x n)))))
            k.own;
        counts = λ x h. dite (ℕ_discrete t x)
            (λ e. subst (λ (y : ℕ). get_or ws (1 + y) 0 + total (downs_in y) (set s.views id w) ≡ length (producers y edges)) e (omega (arith, here, was, total-set (downs_in t) s.views id v w me, downs_here, k.counts t inside)))
            (λ n. omega (arith, away (1 + x) (λ e. n (omega arith)), total-same (downs_in x) s.views id v w me (ap length (producers_away x n)), k.counts x h));
        told = λ x. dite (ℕ_discrete t x)
            (λ e. subst (λ (y : ℕ). total (told_in y) (set s.views id w) ≡ due (get_or ws (1 + y) 0) (length (producers y edges))) e
            (ap (λ (n : ℕ). n) (
            let some_edge : 0 < length (producers t edges) = omega (arith, left.0) in
            let was_none : total (told_in t) s.views ≡ 0 = k.told t ∙ due-later (get_or s.words i 0) (length (producers t edges)) (omega (arith, was)) in
            let is_due : due m 1 ≡ due m (length (producers t edges)) = dite (ℕ_discrete m 0) (λ z. due-now m 1 z (omega arith) ∙ sym (due-now m (length (producers t edges)) z some_edge))
            (λ z. due-later m 1 (omega arith) ∙ sym (due-later m (length (producers t edges)) (omega arith))) in
            let sum : total (told_in t) (set s.views id w) ≡ times t news = omega (arith, total-set (told_in t) s.views id v w me, told_w t, was_none) in
            sum ∙ (loud ∙ (is_due ∙ ap (λ (n : ℕ). due n (length (producers t edges))) (sym here)))
            )))
            (λ n. total-same (told_in x) s.views id v w me (omega (arith, told_w x, quiet x (λ e. n (sym e)))) ∙ (k.told x ∙ ap (λ (y : ℕ). due y (length (producers x edges))) (sym (away (1 + x) (λ e. n (omega arith))))));
        known = each (λ u. (x : ℕ) → 0 < told_in x u → 0 < downs_in x u)
            (λ x h. dite (ℕ_discrete t x) (λ e. subst (λ (y : ℕ). 0 < downs_in y w) e (omega (arith, downs_here)))
            (λ n. omega (arith, ap length (producers_away x n), k.known id v me x (omega (arith, h, told_w x, quiet x (λ e. n (sym e)))))))
            k.known;
        late = let still : (q : ℕ) → get_or s.words (1 + steps + q) 0 ≡ 1 → get_or ws (1 + steps + q) 0 ≡ 1 = λ q h. away (1 + steps + q) (λ e. absurd (omega arith)) ∙ h in
            each (λ u. (q : ℕ) → 0 < times q u.late → get_or ws (1 + steps + q) 0 ≡ 1) (λ q h. still q (k.late id v me q h)) (λ j u at q h. still q (k.late j u at q h));
      }

  minus_one : (n m : ℕ) → n ≡ suc m → n < 18446744073709551616 → (n + (2 ^ 64 - 1)) % 2 ^ 64 ≡ m
  minus_one n m e h = omega arith

  pub counts_down : (slots id : ℕ) (m : Seated) (t i : ℕ) → i ≡ 1 + t → t < steps → 0 < m.0.parts → 0 < ended_in (last_of m.0.ended) m.0 → down_in (last_of m.0.ended) t m.0 < times (last_of m.0.ended) (producers t edges)
      → Allows (IsKept steps edges) slots id m i (λ n. (n + (2 ^ 64 - 1)) % 2 ^ 64) (counted (step slots i 1 0 none) m)
  counts_down slots id m t i is inside some_part mine fresh s k _ me narrow =
      let n : ℕ = get_or s.words i 0 in let at : n ≡ get_or s.words (1 + t) 0 = ap (λ (x : ℕ). get_or s.words x 0) is in
      let left = some_left s k id m.0 (last_of m.0.ended) t me mine fresh in
      let some_more : 0 < n = omega (arith, at, left.0, k.counts t inside) in
      let was : n ≡ suc (n - 1) = omega arith in
      let lower : (n + (2 ^ 64 - 1)) % 2 ^ 64 ≡ n - 1 = minus_one n (n - 1) was narrow in
      let next : (news : List ℕ) → ((q : ℕ) → q ≢ t → times q news ≡ 0) → times t news ≡ due (n - 1) 1
      → IsKept steps edges (with_parts s (set s.words i ((n + (2 ^ 64 - 1)) % 2 ^ 64)) (set s.views id (with_down m.0 t news)))
      = λ news quiet loud. subst (λ (x : ℕ). IsKept steps edges (with_parts s (set s.words i x) (set s.views id (with_down m.0 t news)))) (sym lower)
      (subst (λ (x : ℕ). IsKept steps edges (with_parts s (set s.words x (n - 1)) (set s.views id (with_down m.0 t news)))) (sym is)
      (went s k id m.0 t (n - 1) news me some_part inside mine fresh (sym at ∙ was) quiet loud)) in
      dite (ℕ_discrete n 1)
      (λ one. (
        with_down m.0 t (t ∷ []),
        keeps,
        tt,
        next (t ∷ []) (λ q d. omega (arith, one-other q t (λ e. d (sym e)))) (omega (arith, one-same t, due-now (n - 1) 1 (omega arith) (omega arith))),
        λ q word. let same : t ≡ q = omega arith in ((λ _. ap (λ (x : ℕ). (with_down m.0 x (x ∷ []), m.1)) same), λ d. absurd (d one)),
      ))
      (λ more. (
        with_down m.0 t [],
        keeps,
        tt,
        next [] (λ q d. refl) (sym (due-later (n - 1) 1 (omega arith))),
        λ q word. let same : t ≡ q = omega arith in ((λ one. absurd (more one)), λ _. ap (λ (x : ℕ). (with_down m.0 x [], m.1)) same),
      ))

  due-same : (e : ℕ) → due e e ≡ 0
  due-same zero = refl
  due-same (suc e) = refl

  pub starts : (ws : List ℕ) → length ws ≡ 1 + steps + steps → ((t : ℕ) → steps ≤ t → length (producers t edges) ≡ 0) → ((t : ℕ) → t < steps → get_or ws (1 + t) 0 ≡ length (producers t edges))
      → ((p : ℕ) → p < steps → get_or ws (1 + steps + p) 0 ≡ 0) → IsKept steps edges (opening ws [] (blank all_parts steps edges))
  starts ws wide near counts free = record {
    shares = refl;
    idle = λ j u at e. ⊎_elim (λ (q : get_elem? [] j ≡ some u). absurd (some-ne-none u (sym q))) (λ (q : blank all_parts steps edges ≡ u). absurd (omega (arith, e, ap parts_in q))) (at_snoc [] (blank all_parts steps edges) u j at);
    wide = wide;
    near = near;
    claims = free;
    single = λ p. omega arith;
    downs = λ p t. omega arith;
    own = λ j u at p t h. ⊎_elim (λ (e : get_elem? [] j ≡ some u). absurd (some-ne-none u (sym e))) (λ (e : blank all_parts steps edges ≡ u). absurd (omega (arith, h, ap (down_in p t) e))) (at_snoc [] (blank all_parts steps edges) u j at);
    counts = λ t h. omega (arith, counts t h);
    told = λ t. dite (dec_le steps t) (λ h. sym (due-nil (get_or ws (1 + t) 0) (length (producers t edges)) (near t h)))
        (λ h. sym (ap (λ (n : ℕ). due n (length (producers t edges))) (counts t (omega arith)) ∙ due-same (length (producers t edges))));
    known = λ j u at t h. ⊎_elim (λ (e : get_elem? [] j ≡ some u). absurd (some-ne-none u (sym e))) (λ (e : blank all_parts steps edges ≡ u). absurd (omega (arith, h, ap (told_in t) e))) (at_snoc [] (blank all_parts steps edges) u j at);
    late = λ j u at p h. ⊎_elim (λ (e : get_elem? [] j ≡ some u). absurd (some-ne-none u (sym e))) (λ (e : blank all_parts steps edges ≡ u). absurd (omega (arith, h, ap (λ (x : SeatView). times p x.late) e))) (at_snoc [] (blank all_parts steps edges) u j at);
  }
