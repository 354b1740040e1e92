-- The whole: what is spelled, and what is stuck.
use Rattle.std.proofs.Common.{◌≡◌, ◌⊎◌, inl, inr, ℕ, ◌+◌, Bool, true, false, cond, ltb, List, length, Result, Ok, Err, refl, sym, ap, subst, ◌∙◌, arith}
use Rattle.std.proofs.lemmas.Bool.{ltb-true, lt-ltb}
use Rattle.std.specs.Prelude.{IfOk}
use Rattle.class_pool.specs.declared.class.Class.{Class}
use Rattle.class_pool.specs.declared.fault.ClassFault.{ClassFault}
use Rattle.class_pool.specs.declared.fault.ClassFault.TheVariants as fault
use Rattle.class_grammar.specs.Layout.{IsBytes, Place, place, Outcome, Told}
use Rattle.class_grammar.specs.Grammar.{class, Spells, IsStuck, in_class, trailing, ended, file}
use Rattle.class_grammar.proofs.Right.{err, fills_by, nothing_left, read_full}
use Rattle.class_grammar.proofs.Grammars.{class_right}

zero_plus : (n : ℕ) → 0 + n ≡ n
zero_plus n = omega arith

abbrev class_or : ClassFault → Result Class ClassFault
class_or f = Err f

abbrev a_class : Class → Result Class ClassFault
a_class c = Ok c

over : (b : Bool) (f g : ClassFault) (c : Class) → cond b (class_or f) (a_class c) ≡ Err g → (b ≡ true) × (f ≡ g)
over true f g c e = (refl, cc)
over false f g c e = absurd cc

ended_takes_by : (bytes : List ℕ) (c : Class) (r : Class × Place) (b : Bool) → ltb 0 (length r.1.rest) ≡ b → class.read (place 0 bytes) ≡ Ok r → IsBytes bytes → cond b (class_or (fault.Trailing r.1.at)) (a_class r.0) ≡ Ok c → Spells bytes c
ended_takes_by bytes c r true w is fits e = absurd cc
ended_takes_by bytes c r false w is fits e =
    let same : r.0 ≡ c = cc in
    subst (Spells bytes) same (fills_by class class_right bytes r.0 r.1 fits is (nothing_left _ r.1.rest w refl))

ended_takes : (bytes : List ℕ) (c : Class) (o : Outcome Class) (b : Bool) → class.read (place 0 bytes) ≡ o → IsBytes bytes → ended o ≡ Ok c → Spells bytes c
ended_takes bytes c (Err f) b is fits e = absurd cc
ended_takes bytes c (Ok r) b is fits e = ended_takes_by bytes c r _ refl is fits e

pub file_takes : (bytes : List ℕ) (c : Class) → IsBytes bytes → file bytes ≡ Ok c → Spells bytes c
unfolding file
file_takes bytes c fits e = ended_takes bytes c (class.read (place 0 bytes)) true refl fits e

pub file_again : (bytes : List ℕ) (c : Class) → Spells bytes c → file bytes ≡ Ok c
unfolding file
file_again bytes c s = rw (read_full class class_right bytes c s) refl

ended_sticks : (bytes : List ℕ) (f : ClassFault) (o : Outcome Class) → class.read (place 0 bytes) ≡ o → IsBytes bytes → ended o ≡ Err f → IsStuck bytes f
ended_sticks bytes f (Err g) is fits e = let same : g ≡ f = cc in in_class (class_right.sticks (place 0 bytes) f fits (is ∙ ap err same))
ended_sticks bytes f (Ok r) is fits e =
    let g = over (ltb 0 (length r.1.rest)) (fault.Trailing r.1.at) f r.0 e in
    let t = class_right.takes (place 0 bytes) r.1 r.0 fits is in
    trailing r.0 t.front r.1.rest t.parts t.spells (ltb-true _ _ g.0) (sym g.1 ∙ ap fault.Trailing (t.at_is ∙ zero_plus (length t.front)))

pub file_sticks : (bytes : List ℕ) (f : ClassFault) → IsBytes bytes → file bytes ≡ Err f → IsStuck bytes f
unfolding file
file_sticks bytes f fits e = ended_sticks bytes f (class.read (place 0 bytes)) refl fits e

pub file_stuck : (bytes : List ℕ) (f : ClassFault) → IsBytes bytes → IsStuck bytes f → file bytes ≡ Err f
unfolding file
file_stuck bytes f fits (in_class s) = ap ended (class_right.stuck 0 bytes f fits s)
file_stuck bytes f fits (trailing c front back parts s some same) =
    let first : class.read (place 0 bytes) ≡ Ok (c, place (0 + length front) back) = ap (λ (w : List ℕ). class.read (place 0 w)) parts ∙ class_right.again 0 front back c s in
    rw (first, lt-ltb 0 (length back) some, same, zero_plus (length front)) refl

-- ---- the clauses

pub told_spells : (bytes : List ℕ) (r : Result Class ClassFault) → IsBytes bytes → Told (file bytes) r → IfOk r (λ c. Spells bytes c)
told_spells bytes (Ok c) fits t = file_takes bytes c fits t
told_spells bytes (Err f) fits t = tt

pub told_only : (bytes : List ℕ) (r : Result Class ClassFault) (c : Class) → Told (file bytes) r → Spells bytes c → Told (Ok c) r
told_only bytes (Ok d) c t s = sym (file_again bytes c s) ∙ t
told_only bytes (Err f) c t s = λ some. sym (file_again bytes c s) ∙ t some

pub told_stuck : (bytes : List ℕ) (r : Result Class ClassFault) (f : ClassFault) → IsBytes bytes → Told (file bytes) r → r ≡ Err f → (f ≡ fault.Memory → ⊥) → IsStuck bytes f
told_stuck bytes (Ok c) f fits t e some = absurd cc
told_stuck bytes (Err g) f fits t e some =
    let same : g ≡ f = cc in
    file_sticks bytes f fits (t (λ m. some (sym same ∙ m)) ∙ ap class_or same)

pub told_first : (bytes : List ℕ) (r : Result Class ClassFault) (f : ClassFault) → IsBytes bytes → Told (file bytes) r → IsStuck bytes f → Told (Err f) r
told_first bytes (Ok c) f fits t s = sym (file_stuck bytes f fits s) ∙ t
told_first bytes (Err g) f fits t s = λ some. sym (file_stuck bytes f fits s) ∙ t some

-- ---- the grammar by itself

one_by : (b : List ℕ) (r : Result Class ClassFault) → IsBytes b → file b ≡ r → ((c : Class) × Spells b c) ⊎ ((f : ClassFault) × IsStuck b f)
one_by b (Ok c) fits e = inl (c, file_takes b c fits e)
one_by b (Err f) fits e = inr (f, file_sticks b f fits e)

pub one_or_other : (b : List ℕ) → IsBytes b → ((c : Class) × Spells b c) ⊎ ((f : ClassFault) × IsStuck b f)
one_or_other b fits = one_by b (file b) fits refl

pub never_both : (b : List ℕ) (c : Class) (f : ClassFault) → IsBytes b → Spells b c → IsStuck b f → ⊥
never_both b c f fits s t = let k : a_class c ≡ class_or f = sym (file_again b c s) ∙ file_stuck b f fits t in cc

pub one_class : (b : List ℕ) (c d : Class) → Spells b c → Spells b d → c ≡ d
one_class b c d s t = let k : a_class c ≡ a_class d = sym (file_again b c s) ∙ file_again b d t in cc

pub one_place : (b : List ℕ) (f g : ClassFault) → IsBytes b → IsStuck b f → IsStuck b g → f ≡ g
one_place b f g fits s t = let k : class_or f ≡ class_or g = sym (file_stuck b f fits s) ∙ file_stuck b g fits t in cc
