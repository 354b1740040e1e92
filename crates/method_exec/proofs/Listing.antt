-- Values that are made one by one.
use Rattle.std.proofs.Common.{◌≡◌, ◌≤◌, ℕ, zero, suc, min, length, drop, arith, List, [], ◌∷◌, ◌++◌, Result, Ok, Err, refl, sym, ap, append_assoc}
use Rattle.startup_rules.specs.Worlds.{World}
use Rattle.startup_rules.specs.declared.fault.Invoked.{Invoked}
use Rattle.startup_rules.specs.Acting.{Ends, Act, next, pure}
use Rattle.startup_rules.specs.declared.slot.Slot.{Slot}
use Rattle.startup_rules.specs.Methods.{paired}
use Rattle.method_exec.specs.Walking.{after}

pub after-none : {A : Type 0} (o : Ends (List A)) → after [] o ≡ o
after-none (Ok r, w) = refl
after-none (Err e, w) = refl

pub after-one : {A : Type 0} (out : List A) (v : A) (o : Ends (List A)) → after out (next o.0 o.1 (λ vs. pure (v ∷ vs))) ≡ after (out ++ v ∷ []) o
after-one out v (Ok r, w) = ap (λ (l : List _). (Ok l, w)) (sym (append_assoc out (v ∷ []) r))
after-one out v (Err e, w) = refl

paired_short : (ps : List (List ℕ)) → paired ps [] ≡ []
paired_short [] = refl
paired_short (p ∷ ps) = refl

pub paired_end : (ps : List (List ℕ)) (args : List Slot) (i : ℕ) → min (length ps) (length args) ≤ i → paired (drop i ps) (drop i args) ≡ []
paired_end [] args zero h = refl
paired_end [] args (suc i) h = refl
paired_end (p ∷ ps) [] zero h = refl
paired_end (p ∷ ps) [] (suc i) h = paired_short (drop i ps)
paired_end (p ∷ ps) (a ∷ args) zero h = absurd (omega arith)
paired_end (p ∷ ps) (a ∷ args) (suc i) h = paired_end ps args i (omega arith)
