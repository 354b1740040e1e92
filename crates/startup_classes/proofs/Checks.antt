-- The checks of a class that was read, one after the other.
use Rattle.std.proofs.Common.{◌≡◌, ℕ, Bool, true, false, List, Result, Ok, Err, refl, sym, ap, subst}
use Rattle.std.specs.Prelude.{IfOk}
use Rattle.std.specs.Result.{IfErr}
use Rattle.class_pool.specs.declared.class.Class.{Class}
use Rattle.class_pool.specs.declared.fault.ClassFault.{ClassFault}
use Rattle.class_pool.specs.declared.fault.ClassFault.TheVariants as fault
use Rattle.class_grammar.specs.Grammar.{Spells, IsStuck}
use Rattle.class_grammar.specs.Valid.{IsValid}
use Rattle.name_index.specs.Place.{has}
use Rattle.startup_classes.specs.declared.load_fault.LoadFault.{LoadFault}
use Rattle.startup_classes.specs.declared.load_fault.LoadFault.TheVariants as load
use Rattle.startup_classes.specs.Loading.{is_named, may_initialize, IsClassOf, IsFaultAt, no_class, other_name, twice, initializer, checked, checked_by, class_fault, HoldsNone}

abbrev err : LoadFault → Result Class LoadFault
err f = Err f

pub record Passed (n h m : Bool) (c d : Class) : Type 0 where
  pub named : n ≡ true
  pub once : h ≡ false
  pub fits : m ≡ true
  pub same : c ≡ d

pub passed : (n h m : Bool) (at : ℕ) (c d : Class) → checked_by n h m at c ≡ Ok d → Passed n h m c d
passed false h m at c d e = absurd cc
passed true true m at c d e = absurd cc
passed true false false at c d e = absurd cc
passed true false true at c d e = record { named = refl; once = refl; fits = refl; same = cc }

pub passes : (n h m : Bool) (at : ℕ) (c : Class) → n ≡ true → h ≡ false → m ≡ true → checked_by n h m at c ≡ Ok c
passes true false true at c a b e = refl
passes false h m at c a b e = absurd cc
passes true true m at c a b e = absurd cc
passes true false false at c a b e = absurd cc

-- ---- a check that fails

pub fails_name : (n h m : Bool) (at : ℕ) (c : Class) (f : LoadFault) → n ≡ false → f ≡ load.Name at → checked_by n h m at c ≡ Err f
fails_name false h m at c f a is = ap err (sym is)
fails_name true h m at c f a is = absurd cc

pub fails_twice : (n h m : Bool) (at : ℕ) (c : Class) (f : LoadFault) → n ≡ true → h ≡ true → f ≡ load.Twice at → checked_by n h m at c ≡ Err f
fails_twice true true m at c f a b is = ap err (sym is)
fails_twice false h m at c f a b is = absurd cc
fails_twice true false m at c f a b is = absurd cc

pub fails_initializer : (n h m : Bool) (at : ℕ) (c : Class) (f : LoadFault) → n ≡ true → h ≡ false → m ≡ false → f ≡ load.Initializer at → checked_by n h m at c ≡ Err f
fails_initializer true false false at c f a b d is = ap err (sym is)
fails_initializer false h m at c f a b d is = absurd cc
fails_initializer true true m at c f a b d is = absurd cc
fails_initializer true false true at c f a b d is = absurd cc

failed_by : (earlier : List (List ℕ)) (at : ℕ) (name bytes : List ℕ) (c : Class) (f : LoadFault) (n h m : Bool) → Spells bytes c → is_named name c ≡ n → has earlier name ≡ h → may_initialize name c ≡ m → checked_by n h m at c ≡ Err f → IsFaultAt earlier at name bytes f
failed_by earlier at name bytes c f false h m s a b d e = let is : f ≡ load.Name at = cc in other_name c s a is
failed_by earlier at name bytes c f true true m s a b d e = let is : f ≡ load.Twice at = cc in twice c s a b is
failed_by earlier at name bytes c f true false false s a b d e = let is : f ≡ load.Initializer at = cc in initializer c s a b d is
failed_by earlier at name bytes c f true false true s a b d e = absurd cc

pub failed : (earlier : List (List ℕ)) (at : ℕ) (name bytes : List ℕ) (c : Class) (f : LoadFault) → Spells bytes c → checked earlier at name c ≡ Err f → IsFaultAt earlier at name bytes f
failed earlier at name bytes c f s e = failed_by earlier at name bytes c f _ _ _ s refl refl refl e

whole_by : (n h m : Bool) (at : ℕ) (c : Class) (f : LoadFault) → checked_by n h m at c ≡ Err f → HoldsNone f
whole_by false h m at c f e = let is : load.Name at ≡ f = cc in subst HoldsNone is tt
whole_by true true m at c f e = let is : load.Twice at ≡ f = cc in subst HoldsNone is tt
whole_by true false false at c f e = let is : load.Initializer at ≡ f = cc in subst HoldsNone is tt
whole_by true false true at c f e = absurd cc

-- ---- what a file of the list is answered with

pub loaded : (earlier : List (List ℕ)) (at : ℕ) (name bytes : List ℕ) (c d : Class) → Spells bytes c → checked earlier at name c ≡ Ok d → IsClassOf earlier name bytes d
loaded earlier at name bytes c d s e =
    let p = passed (is_named name c) (has earlier name) (may_initialize name c) at c d e in
    subst (IsClassOf earlier name bytes) p.same (record { spelled = s; named = p.named; once = p.once; initializer = p.fits })

pub still_valid : (earlier : List (List ℕ)) (at : ℕ) (name : List ℕ) (c d : Class) → IsValid c → checked earlier at name c ≡ Ok d → IsValid d
still_valid earlier at name c d v e = subst IsValid (passed (is_named name c) (has earlier name) (may_initialize name c) at c d e).same v

pub whole : (earlier : List (List ℕ)) (at : ℕ) (name : List ℕ) (c : Class) (f : LoadFault) → checked earlier at name c ≡ Err f → HoldsNone f
whole earlier at name c f e = whole_by _ _ _ at c f e

pub stuck : (earlier : List (List ℕ)) (at : ℕ) (name bytes : List ℕ) (e : ClassFault) (f : LoadFault) → class_fault at e ≡ f → (f ≡ load.Memory → ⊥) → ((e ≡ fault.Memory → ⊥) → IsStuck bytes e) → IsFaultAt earlier at name bytes f
stuck earlier at name bytes fault.Magic f is some h = no_class fault.Magic (h (λ m. absurd cc)) (sym is)
stuck earlier at name bytes fault.Version f is some h = no_class fault.Version (h (λ m. absurd cc)) (sym is)
stuck earlier at name bytes (fault.Short k) f is some h = no_class (fault.Short k) (h (λ m. absurd cc)) (sym is)
stuck earlier at name bytes (fault.Pool k) f is some h = no_class (fault.Pool k) (h (λ m. absurd cc)) (sym is)
stuck earlier at name bytes (fault.Shape k) f is some h = no_class (fault.Shape k) (h (λ m. absurd cc)) (sym is)
stuck earlier at name bytes (fault.Trailing k) f is some h = no_class (fault.Trailing k) (h (λ m. absurd cc)) (sym is)
stuck earlier at name bytes fault.Memory f is some h = absurd (some (sym is))

pub class_whole : (at : ℕ) (e : ClassFault) → HoldsNone (class_fault at e)
class_whole at fault.Magic = tt
class_whole at fault.Version = tt
class_whole at (fault.Short k) = tt
class_whole at (fault.Pool k) = tt
class_whole at (fault.Shape k) = tt
class_whole at (fault.Trailing k) = tt
class_whole at fault.Memory = tt

-- ---- the same of an answer

pub loaded_if : (earlier : List (List ℕ)) (at : ℕ) (name bytes : List ℕ) (c : Class) (r : Result Class LoadFault) → Spells bytes c → r ≡ checked earlier at name c → IfOk r (λ d. IsClassOf earlier name bytes d)
loaded_if earlier at name bytes c (Ok d) s e = loaded earlier at name bytes c d s (sym e)
loaded_if earlier at name bytes c (Err f) s e = tt

pub valid_if : (earlier : List (List ℕ)) (at : ℕ) (name : List ℕ) (c : Class) (r : Result Class LoadFault) → IsValid c → r ≡ checked earlier at name c → IfOk r (λ d. IsValid d)
valid_if earlier at name c (Ok d) v e = still_valid earlier at name c d v (sym e)
valid_if earlier at name c (Err f) v e = tt

pub whole_if : (earlier : List (List ℕ)) (at : ℕ) (name : List ℕ) (c : Class) (r : Result Class LoadFault) → r ≡ checked earlier at name c → IfErr r (λ f. HoldsNone f)
whole_if earlier at name c (Ok d) e = tt
whole_if earlier at name c (Err f) e = whole earlier at name c f (sym e)
