-- A sink that grows by one piece after another.
use Rattle.std.proofs.Common.{◌≡◌, ◌∙◌, ap, refl, subst, sym, ℕ, ◌+◌, List, ◌++◌, take, drop, Option, Some, None, option_map}
use Rattle.std.proofs.lemmas.List.{append_assoc, take-append-drop}
use Rattle.std.proofs.Math.Seq.{take-add}
use Rattle.aug_base.specs.Sinks.{Grows, GrowsBySome}

twice : (a b : List ℕ) (first : Option (List ℕ)) → option_map (λ s. s ++ b) (option_map (λ s. s ++ a) first) ≡ option_map (λ s. s ++ (a ++ b)) first
twice a b None = refl
twice a b (Some s) = ap Some (append_assoc s a b)

pub grows_then : (a b : List ℕ) (first middle last : Option (List ℕ)) → Grows a first middle → Grows b middle last → Grows (a ++ b) first last
grows_then a b first middle last p q = q ∙ ap (option_map (λ s. s ++ b)) p ∙ twice a b first

-- the first bytes, and then some of the rest
pub grows_on : (bytes : List ℕ) (done count : ℕ) (first middle last : Option (List ℕ))
    → Grows (take done bytes) first middle → Grows (take count (drop done bytes)) middle last → Grows (take (done + count) bytes) first last
grows_on bytes done count first middle last p q =
    let P : List ℕ → Type 0 = λ s. Grows s first last in
    subst P (sym (take-add done count bytes)) (grows_then _ _ first middle last p q)

-- the first bytes alone
pub grows_some : (bytes : List ℕ) (done : ℕ) (first last : Option (List ℕ)) → Grows (take done bytes) first last → GrowsBySome bytes first last
grows_some bytes done first last p = (take done bytes, (drop done bytes, sym (take-append-drop done bytes)), p)

-- the first bytes, and then nothing
pub grows_same : (bytes : List ℕ) (done : ℕ) (first middle last : Option (List ℕ)) → Grows (take done bytes) first middle → last ≡ middle → GrowsBySome bytes first last
grows_same bytes done first middle last p q = grows_some bytes done first last (q ∙ p)
