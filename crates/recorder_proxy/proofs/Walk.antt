-- What holds of each element and those before it, by a walk along the list.
use Rattle.std.proofs.Common.{◌≡◌, ℕ, List, [], ◌∷◌, ◌++◌, take, drop, refl, sym, ◌∙◌, ap, subst, append_assoc, append-nil}
use Rattle.std.specs.List.{All}
use Rattle.std.proofs.lemmas.List.Elements.{All-head, All-tail}
use Rattle.recorder_proxy.specs.Playable.{EachAfter}

module _ {X : Type 0} (P : List X → X → Type 0) where
  abbrev Walk : List X → List X → Type 0
  Walk done [] = Unit {0}
  Walk done (x ∷ xs) = P done x × Walk (done ++ x ∷ []) xs

  pub EachAfter-nil : EachAfter P []
  EachAfter-nil [] x a e = cc
  EachAfter-nil (y ∷ b) x a e = cc

  walk_from : (done xs : List X) → ((b : List X) (x : X) (a : List X) → xs ≡ b ++ x ∷ a → P (done ++ b) x) → Walk done xs
  walk_from done [] h = tt
  walk_from done (x ∷ xs) h = (
    subst (λ d. P d x) (append-nil done) (h [] x xs refl),
    walk_from (done ++ x ∷ []) xs (λ b y a e. subst (λ d. P d y) (sym (append_assoc done (x ∷ []) b)) (h (x ∷ b) y a (ap (λ ys. x ∷ ys) e))),
  )

  each_from : (done xs : List X) → Walk done xs → (b : List X) (x : X) (a : List X) → xs ≡ b ++ x ∷ a → P (done ++ b) x
  each_from done [] w [] x a e = cc
  each_from done [] w (z ∷ b) x a e = cc
  each_from done (y ∷ ys) w [] x a e =
      let same : y ≡ x = cc in
      subst (λ d. P d x) (sym (append-nil done)) (subst (λ v. P done v) same w.0)
  each_from done (y ∷ ys) w (z ∷ b) x a e =
      let same : y ≡ z = cc in
      let rest : ys ≡ b ++ x ∷ a = cc in
      subst (λ v. P (done ++ v ∷ b) x) same (subst (λ d. P d x) (append_assoc done (y ∷ []) b) (each_from (done ++ y ∷ []) ys w.1 b x a rest))

  first : (done b a : List X) → Walk done (b ++ a) → Walk done b
  first done [] a w = tt
  first done (x ∷ b) a w = (w.0, first (done ++ x ∷ []) b a w.1)

  second : (done b a : List X) → Walk done (b ++ a) → Walk (done ++ b) a
  second done [] a w = subst (λ d. Walk d a) (sym (append-nil done)) w
  second done (x ∷ b) a w = subst (λ d. Walk d a) (append_assoc done (x ∷ []) b) (second (done ++ x ∷ []) b a w.1)

  both : (done b a : List X) → Walk done b → Walk (done ++ b) a → Walk done (b ++ a)
  both done [] a w v = subst (λ d. Walk d a) (append-nil done) v
  both done (x ∷ b) a w v = (w.0, both (done ++ x ∷ []) b a w.1 (subst (λ d. Walk d a) (sym (append_assoc done (x ∷ []) b)) v))

  -- one more before those of which Q holds
  later : (Q : X → Type 0) (d : List X) (r : X) → ((e : List X) (x : X) → Q x → P (d ++ e) x → P (d ++ r ∷ e) x) → (e xs : List X) → All Q xs → Walk (d ++ e) xs → Walk (d ++ r ∷ e) xs
  later Q d r more e [] q w = tt
  later Q d r more e (x ∷ xs) q w = (
    more e x (All-head Q x xs q) w.0,
    subst (λ v. Walk v xs) (sym (append_assoc d (r ∷ e) (x ∷ []))) (later Q d r more (e ++ x ∷ []) xs (All-tail Q x xs q) (subst (λ v. Walk v xs) (append_assoc d e (x ∷ [])) w.1)),
  )

  pub EachAfter-insert : (Q : X → Type 0) (before : List X) (r : X) (after : List X) → ((e : List X) (x : X) → Q x → P (before ++ e) x → P (before ++ r ∷ e) x) → All Q after → P before r → EachAfter P (before ++ after) → EachAfter P (before ++ r ∷ after)
  EachAfter-insert Q before r after more q p h =
      let w = walk_from [] (before ++ after) h in
      let rest = later Q before r more [] after q (subst (λ v. Walk v after) (sym (append-nil before)) (second [] before after w)) in
      each_from [] (before ++ r ∷ after) (both [] before (r ∷ after) (first [] before after w) (p, rest))

  pub EachAfter-take : (n : ℕ) (xs : List X) → take n xs ++ drop n xs ≡ xs → EachAfter P xs → EachAfter P (take n xs)
  EachAfter-take n xs whole h b x a e = h b x (a ++ drop n xs) (sym whole ∙ (ap (λ ys. ys ++ drop n xs) e ∙ append_assoc b (x ∷ a) (drop n xs)))
