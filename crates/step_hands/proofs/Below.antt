-- What leaves a deque at either end is below the limit on steps, and so is what stays.
use Rattle.std.proofs.Common.{ℕ, ◌<◌, All, List, [], ◌∷◌, ◌++◌, length, subst}
use lib.Seq.{take-append_seam, drop-append_seam}
use Rattle.std.proofs.lemmas.List.Elements.{All-append, All-take, All-drop}
use Rattle.crossbeam_deque.specs.Tasks.{Pushes, Takes, Pops}

abbrev below : ℕ → Type 0
below x = x < 2048

abbrev Holds : List ℕ → List (Unit {0}) → Type 0
Holds items _ = All below items

left : (xs ys : List ℕ) → All below (xs ++ ys) → All below xs
left xs ys h = subst (All below) (take-append_seam xs ys) (All-take below (length xs) (xs ++ ys) h)

right : (xs ys : List ℕ) → All below (xs ++ ys) → All below ys
right xs ys h = subst (All below) (drop-append_seam xs ys) (All-drop below (length xs) (xs ++ ys) h)

pub pushes : (port : ℕ) (v : Unit {0}) (xs : List ℕ) → All below xs → Pushes Holds port v xs (λ _. All below xs)
pushes port v xs new items views h _ = (tt, All-append below items xs h new, new)

pub takes : (port : ℕ) (v : Unit {0}) (most : ℕ) → Takes Holds port v most (λ xs _. All below xs)
takes port v most xs items views _ _ h _ = (tt, right xs items h, left xs items h)

pub pops : (port : ℕ) (v : Unit {0}) → Pops Holds port v (λ xs _. All below xs)
pops port v x items views h _ = (tt, left items (x ∷ []) h, right items (x ∷ []) h)
