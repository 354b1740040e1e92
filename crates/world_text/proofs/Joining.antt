-- One more text of several, or of several in two lists.
use Rattle.std.proofs.Common.{◌≡◌, ℕ, ◌+◌, ◌<◌, ◌≤◌, min, List, [], ◌∷◌, ◌++◌, length, drop, get_or, map, refl, ap, cond, inl, inr, add-one, codes, append_assoc, ◌∙◌, zero, suc, arith}
use Rattle.std.proofs.lemmas.Bool.Decides.{eqb_tells}
use Rattle.std.proofs.Math.Seq.{drop-cons, drop-nil}
use Rattle.std.specs.Str.{IsUtf8}
use lib.Utf8
use Rattle.item_types.specs.Printed.{joined, named, separator}

pub comma_is_text : IsUtf8 (codes ", ")
unfolding lib.Utf8.encode
comma_is_text = (codes ", ", (refl, refl))

pub separator_next : (i : ℕ) → separator (i + 1) ≡ codes ", "
separator_next i =
    elim (eqb_tells (i + 1) 0) [
      | inl e ↦ let same = e.1 in absurd (omega (arith, same))
      | inr f ↦ ap (λ b. cond b [] (codes ", ")) f.0
    ]

-- `done` is written, then the mark, then the text of the element at i
module _ {X : Type 0} (f : X → List ℕ) where
  pub joined_next : (xs : List X) (i : ℕ) (x : X) (mark between done whole : List ℕ) → i < length xs →
      done ++ joined mark between (map f (drop i xs)) ≡ whole →
      ((done ++ mark) ++ f (get_or xs i x)) ++ joined between between (map f (drop (i + 1) xs)) ≡ whole
  joined_next xs i x mark between done whole h e =
      let k = rw (drop-cons xs i x h) at e in
      let m = simp append_assoc at k in
      rw add-one (simp append_assoc m)

  pub named_next : (fields : List (List ℕ)) (xs : List X) (i : ℕ) (name : List ℕ) (x : X) (mark between done whole : List ℕ) → i < length fields → i < length xs →
      done ++ joined mark between (named (drop i fields) (map f (drop i xs))) ≡ whole →
      (((done ++ mark) ++ (get_or fields i name ++ codes ": ")) ++ f (get_or xs i x)) ++ joined between between (named (drop (i + 1) fields) (map f (drop (i + 1) xs))) ≡ whole
  named_next fields xs i name x mark between done whole h l e =
      let k = rw (drop-cons xs i x l, drop-cons fields i name h) at e in
      let m = simp append_assoc at k in
      rw add-one (simp append_assoc m)

  named_none : (fields : List (List ℕ)) → named fields [] ≡ []
  named_none [] = refl
  named_none (x ∷ fields) = refl

  pub named_end : (fields : List (List ℕ)) (xs : List X) (i : ℕ) → min (length fields) (length xs) ≤ i → named (drop i fields) (map f (drop i xs)) ≡ []
  named_end [] xs i h = rw (drop-nil {A = List ℕ} i) refl
  named_end (y ∷ fields) [] i h = rw (drop-nil {A = X} i) (named_none (drop i (y ∷ fields)))
  named_end (y ∷ fields) (x ∷ xs) zero h = absurd (omega arith)
  named_end (y ∷ fields) (x ∷ xs) (suc i) h = named_end fields xs i (omega arith)

-- `done` is written, then the text of the pair at i
module _ {X Y : Type 0} (f : X → Y → List ℕ) (all : List X → List Y → List ℕ) (next : (x : X) (xs : List X) (y : Y) (ys : List Y) → all (x ∷ xs) (y ∷ ys) ≡ f x y ++ all xs ys) where
  pub paired_next : (xs : List X) (ys : List Y) (i : ℕ) (x : X) (y : Y) (done whole : List ℕ) → i < length xs → i < length ys →
      done ++ all (drop i xs) (drop i ys) ≡ whole → (done ++ f (get_or xs i x) (get_or ys i y)) ++ all (drop (i + 1) xs) (drop (i + 1) ys) ≡ whole
  paired_next xs ys i x y done whole h l e =
      let k = rw (drop-cons xs i x h, drop-cons ys i y l, next) at e in
      rw add-one (append_assoc done (f (get_or xs i x) (get_or ys i y)) (all (drop (suc i) xs) (drop (suc i) ys)) ∙ k)

  pub paired_end : ((ys : List Y) → all [] ys ≡ []) → ((xs : List X) → all xs [] ≡ []) → (xs : List X) (ys : List Y) (i : ℕ) → min (length xs) (length ys) ≤ i → all (drop i xs) (drop i ys) ≡ []
  paired_end none short [] ys i h = rw (drop-nil {A = X} i) (none (drop i ys))
  paired_end none short (x ∷ xs) [] i h = rw (drop-nil {A = Y} i) (short (drop i (x ∷ xs)))
  paired_end none short (x ∷ xs) (y ∷ ys) zero h = absurd (omega arith)
  paired_end none short (x ∷ xs) (y ∷ ys) (suc i) h = paired_end none short xs ys i (omega arith)
