-- A recording that comes in between others.
use Rattle.std.proofs.Common.{◌≡◌, inl, inr, ℕ, List, [], ◌∷◌, ◌++◌, length, take, drop, refl, sym, ap, subst, arith, length-append}
use Rattle.std.specs.List.{All, Contains, flat_map}
use Rattle.std.proofs.lemmas.List.Elements.{All-nil, All-cons, All-head, All-tail, All-weaker, All-take, Contains-append_left, Contains-append_right, Contains-append_cases}
use Rattle.std.proofs.lemmas.List.{take-append-drop}
use Rattle.item_types.specs.declared.value.Proxy.{Proxy}
use Rattle.recorder_proxy.specs.Proxies.{proxies, is_runtime}
use Rattle.recorder_proxy.specs.Playable.{EachAfter, IsKept, CallsNameKept, HasNoProxy, HasNoStep, IsWithin, IsPlayable, MayComeIn}
use Rattle.recorder_proxy.specs.declared.call.Recording.{Recording}
use Rattle.recorder_proxy.proofs.Walk.{EachAfter-nil, EachAfter-insert, EachAfter-take}
use Rattle.recorder_proxy.proofs.Parted.{IsParted-take}

module _ {X : Type 0} (P : X → Type 0) where
  all_insert : (b : List X) (r : X) (a : List X) → P r → All P (b ++ a) → All P (b ++ r ∷ a)
  all_insert [] r a p h = All-cons P r a p h
  all_insert (x ∷ b) r a p h = All-cons P x (b ++ r ∷ a) (All-head P x (b ++ a) h) (all_insert b r a p (All-tail P x (b ++ a) h))

  all_first : (b a : List X) → All P (b ++ a) → All P b
  all_first [] a h = All-nil P
  all_first (x ∷ b) a h = All-cons P x b (All-head P x (b ++ a) h) (all_first b a (All-tail P x (b ++ a) h))

  all_second : (b a : List X) → All P (b ++ a) → All P a
  all_second [] a h = h
  all_second (x ∷ b) a h = all_second b a (All-tail P x (b ++ a) h)

in_more_at : {X : Type 0} (d e t : List X) (r x : X) → Contains (d ++ e) x → Contains ((d ++ r ∷ e) ++ t) x
in_more_at d e t r x h =
    elim (Contains-append_cases d e x h) [
      | inl k ↦ Contains-append_left (d ++ r ∷ e) t x (Contains-append_left d (r ∷ e) x k)
      | inr k ↦ Contains-append_left (d ++ r ∷ e) t x (Contains-append_right d (r ∷ e) x (Contains-append_right (r ∷ []) e x k))
    ]

in_more : {X : Type 0} (d e t : List X) (r x : X) → Contains ((d ++ e) ++ t) x → Contains ((d ++ r ∷ e) ++ t) x
in_more d e t r x h =
    elim (Contains-append_cases (d ++ e) t x h) [
      | inl k ↦ in_more_at d e t r x k
      | inr k ↦ Contains-append_right (d ++ r ∷ e) t x k
    ]

kept_more : (d e t : List Recording) (r : Recording) (p : Proxy) → IsKept ((d ++ e) ++ t) p → IsKept ((d ++ r ∷ e) ++ t) p
kept_more d e t r p k = (k.0, in_more d e t r k.0 k.1, k.2, k.3)

calls_more : (d e : List Recording) (r own : Recording) → CallsNameKept (d ++ e) own → CallsNameKept (d ++ r ∷ e) own
calls_more d e r own h done c rest whole =
    All-weaker (IsKept ((d ++ e) ++ record own { calls = done } ∷ [])) (IsKept ((d ++ r ∷ e) ++ record own { calls = done } ∷ []))
    (kept_more d e (record own { calls = done } ∷ []) r) (flat_map proxies c.args) (h done c rest whole)

pub IsPlayable-insert : (most most_cells most_text : ℕ) (b : List Recording) (r : Recording) (a : List Recording) →
    IsPlayable most most_cells most_text (b ++ a) → MayComeIn most most_cells most_text b a r → IsPlayable most most_cells most_text (b ++ r ∷ a)
IsPlayable-insert most most_cells most_text b r a h m =
    record {
      few = omega (arith, m.few, length-append b a, length-append b (r ∷ a));
      one_a_step = EachAfter-insert (λ earlier x. HasNoStep x.step earlier) (λ x. r.step ≡ x.step → ⊥) b r a
          (λ e x q n. all_insert (λ y. y.step ≡ x.step → ⊥) b r e q n)
          (All-weaker (λ x. x.step ≡ r.step → ⊥) (λ x. r.step ≡ x.step → ⊥) (λ x n e. n (sym e)) a (all_second (λ x. x.step ≡ r.step → ⊥) b a m.new_step))
          (all_first (λ x. x.step ≡ r.step → ⊥) b a m.new_step) h.one_a_step;
      within = all_insert (IsWithin most_cells most_text) b r a m.within h.within;
      static_first = m.static_first;
      kept = EachAfter-insert CallsNameKept (λ x. Unit {0}) b r a (λ e x q n. calls_more b e r x n) (λ k d l. tt) m.kept h.kept;
    }

pub IsPlayable-take : (most most_cells most_text n : ℕ) (rs : List Recording) → IsPlayable most most_cells most_text rs → IsPlayable most most_cells most_text (take n rs)
IsPlayable-take most most_cells most_text n rs h =
    record {
      few = omega (arith, h.few, ap length (take-append-drop n rs), length-append (take n rs) (drop n rs));
      one_a_step = EachAfter-take (λ earlier x. HasNoStep x.step earlier) n rs (take-append-drop n rs) h.one_a_step;
      within = All-take (IsWithin most_cells most_text) n rs h.within;
      static_first = IsParted-take (λ r. is_runtime r.phase) n rs h.static_first;
      kept = EachAfter-take CallsNameKept n rs (take-append-drop n rs) h.kept;
    }

pub IsPlayable-nil : (most most_cells most_text : ℕ) → IsPlayable most most_cells most_text []
IsPlayable-nil most most_cells most_text =
    record {
      few = omega arith;
      one_a_step = EachAfter-nil (λ earlier x. HasNoStep x.step earlier);
      within = All-nil (IsWithin most_cells most_text);
      static_first = refl;
      kept = EachAfter-nil CallsNameKept;
    }

all_at : {X : Type 0} (P : X → Type 0) (xs b : List X) (x : X) (a : List X) → xs ≡ b ++ x ∷ a → All P xs → P x
all_at P xs b x a e h = All-head P x a (all_second P b (x ∷ a) (subst (λ ys. All P ys) e h))

pub CallsNameKept-plain : (earlier : List Recording) (r : Recording) → HasNoProxy r.calls → CallsNameKept earlier r
CallsNameKept-plain earlier r h done c rest e =
    let Kept = IsKept (earlier ++ record r { calls = done } ∷ []) in
    subst (λ ps. All Kept ps) (sym (all_at (λ d. flat_map proxies d.args ≡ []) r.calls done c rest e h)) (All-nil Kept)

pub EachAfter-plain : (rs : List Recording) → All (λ r. HasNoProxy r.calls) rs → EachAfter CallsNameKept rs
EachAfter-plain rs h before r after e = CallsNameKept-plain before r (all_at (λ s. HasNoProxy s.calls) rs before r after e h)
