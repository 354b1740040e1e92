-- Files load to one list of classes, or are refused with one fault.
use Rattle.std.proofs.Common.{◌≡◌, ◌⊎◌, inl, inr, ℕ, ◌<◌, ◌≤◌, true, false, List, length, take, Some, Result, Ok, Err, sym, ap, subst, ◌∙◌, arith}
use Rattle.std.specs.List.{slice_get}
use Rattle.std.proofs.lemmas.Bool.{cases_lt}
use Rattle.std.proofs.lemmas.Option.{slice_get_within}
use Rattle.class_pool.specs.declared.class.Class.{Class}
use Rattle.class_pool.specs.declared.fault.ClassFault.{ClassFault}
use Rattle.class_grammar.specs.Grammar.{Spells, IsStuck}
use Rattle.class_grammar.specs.Layout.{IsBytes}
use Rattle.name_index.specs.Place.{has}
use Rattle.startup_classes.specs.declared.load_fault.LoadFault.{LoadFault}
use Rattle.startup_classes.specs.declared.load_fault.LoadFault.TheVariants as load
use Rattle.startup_classes.specs.Loading.{main_name, is_named, may_initialize, IsClassOf, IsFaultAt, no_class, other_name, twice, initializer, checked, AreFirst, Loads, StopsAt, IsRefused, in_file, no_main, AreBytes}
use Rattle.startup_classes.proofs.Checks.{passes, fails_name, fails_twice, fails_initializer}
use Rattle.startup_classes.proofs.Places.{there, same_lists}

-- the law of reading that all rests on
pub record OneReading : Type 0 where
  pub never_both : (b : List ℕ) (c : Class) (f : ClassFault) → IsBytes b → Spells b c → IsStuck b f → ⊥
  pub one_class : (b : List ℕ) (c d : Class) → Spells b c → Spells b d → c ≡ d
  pub one_place : (b : List ℕ) (f g : ClassFault) → IsBytes b → IsStuck b f → IsStuck b g → f ≡ g

abbrev err : LoadFault → Result Class LoadFault
err f = Err f

abbrev ok : Class → Result Class LoadFault
ok c = Ok c

-- ---- one place

-- the fault of a place is that of its bytes, or of the first check of its class that fails
data FaultOf (earlier : List (List ℕ)) (at : ℕ) (name bytes : List ℕ) (f : LoadFault) : Type 0 where
  of_bytes : (e : ClassFault) → IsStuck bytes e → f ≡ load.Class at e → FaultOf earlier at name bytes f
  of_class : (c : Class) → Spells bytes c → checked earlier at name c ≡ Err f → FaultOf earlier at name bytes f

fault_of : (earlier : List (List ℕ)) (at : ℕ) (name bytes : List ℕ) (f : LoadFault) → IsFaultAt earlier at name bytes f → FaultOf earlier at name bytes f
fault_of earlier at name bytes f (no_class e s is) = of_bytes e s is
fault_of earlier at name bytes f (other_name c s a is) = of_class c s (fails_name (is_named name c) (has earlier name) (may_initialize name c) at c f a is)
fault_of earlier at name bytes f (twice c s a b is) = of_class c s (fails_twice (is_named name c) (has earlier name) (may_initialize name c) at c f a b is)
fault_of earlier at name bytes f (initializer c s a b d is) = of_class c s (fails_initializer (is_named name c) (has earlier name) (may_initialize name c) at c f a b d is)

class_passes : (earlier : List (List ℕ)) (at : ℕ) (name bytes : List ℕ) (c : Class) → IsClassOf earlier name bytes c → checked earlier at name c ≡ Ok c
class_passes earlier at name bytes c h = passes (is_named name c) (has earlier name) (may_initialize name c) at c h.named h.once h.initializer

class_or_by : OneReading → (earlier : List (List ℕ)) (at : ℕ) (name bytes : List ℕ) (c : Class) (f : LoadFault) → IsBytes bytes → IsClassOf earlier name bytes c → FaultOf earlier at name bytes f → ⊥
class_or_by r earlier at name bytes c f fits h (of_bytes e s is) = r.never_both bytes c e fits h.spelled s
class_or_by r earlier at name bytes c f fits h (of_class d s e) =
    let same : c ≡ d = r.one_class bytes c d h.spelled s in
    let two : ok c ≡ err f = sym (class_passes earlier at name bytes c h) ∙ ap (checked earlier at name) same ∙ e in
    absurd cc

-- a place has a class or a fault
pub class_or_fault : OneReading → (earlier : List (List ℕ)) (at : ℕ) (name bytes : List ℕ) (c : Class) (f : LoadFault) → IsBytes bytes → IsClassOf earlier name bytes c → IsFaultAt earlier at name bytes f → ⊥
class_or_fault r earlier at name bytes c f fits h g = class_or_by r earlier at name bytes c f fits h (fault_of earlier at name bytes f g)

one_at_by : OneReading → (earlier : List (List ℕ)) (at : ℕ) (name bytes : List ℕ) (f g : LoadFault) → IsBytes bytes → FaultOf earlier at name bytes f → FaultOf earlier at name bytes g → f ≡ g
one_at_by r earlier at name bytes f g fits (of_bytes e s is) (of_bytes d t so) = is ∙ ap (load.Class at) (r.one_place bytes e d fits s t) ∙ sym so
one_at_by r earlier at name bytes f g fits (of_bytes e s is) (of_class d t so) = absurd (r.never_both bytes d e fits t s)
one_at_by r earlier at name bytes f g fits (of_class c s is) (of_bytes d t so) = absurd (r.never_both bytes c d fits s t)
one_at_by r earlier at name bytes f g fits (of_class c s is) (of_class d t so) =
    let same : c ≡ d = r.one_class bytes c d s t in
    let two : err f ≡ err g = sym is ∙ ap (checked earlier at name) same ∙ so in
    cc

pub one_at : OneReading → (earlier : List (List ℕ)) (at : ℕ) (name bytes : List ℕ) (f g : LoadFault) → IsBytes bytes → IsFaultAt earlier at name bytes f → IsFaultAt earlier at name bytes g → f ≡ g
one_at r earlier at name bytes f g fits h k = one_at_by r earlier at name bytes f g fits (fault_of earlier at name bytes f h) (fault_of earlier at name bytes g k)

-- ---- the whole list

pub one_list : OneReading → (listed files : List (List ℕ)) (cs ds : List Class) → length listed ≡ length files → Loads listed files cs → Loads listed files ds → cs ≡ ds
one_list r listed files cs ds same a b = same_lists cs ds (a.count ∙ sym b.count) (λ i c d x y.
    let within : i < length cs = slice_get_within cs i c x in
    let n = there listed i (omega (arith, a.count)) in
    let f = there files i (omega (arith, a.count, same)) in
    r.one_class f.0 c d (a.first i n.0 f.0 c n.1 f.1 x).spelled (b.first i n.0 f.0 d n.1 f.1 y).spelled)

-- no fault stops the files before a class that they have
pub no_stop : OneReading → (listed files : List (List ℕ)) (cs ds : List Class) (f : LoadFault) → AreFirst listed files cs → length ds < length cs → AreBytes (length ds) files → StopsAt listed files ds f → ⊥
no_stop r listed files cs ds f first less bytes s =
    let c = there cs (length ds) less in
    class_or_fault r (take (length ds) listed) (length ds) s.name s.bytes c.0 f (bytes (length ds) s.bytes (omega arith) s.bytes_there) (first (length ds) s.name s.bytes c.0 s.name_there s.bytes_there c.1) s.fault

fewer : (m n : ℕ) → m ≤ n → (files : List (List ℕ)) → AreBytes n files → AreBytes m files
fewer m n le files h = λ i b less e. h i b (omega arith) e

-- two faults that stop the files stop them at one place, and are one
one_stop_by : OneReading → (listed files : List (List ℕ)) (f g : LoadFault) (cs ds : List Class) → length cs ≡ length ds → AreBytes (length ds) files → StopsAt listed files cs f → StopsAt listed files ds g → f ≡ g
one_stop_by r listed files f g cs ds same bytes s t =
    let n : s.name ≡ t.name = let e : Some s.name ≡ Some t.name = sym s.name_there ∙ ap (slice_get listed) same ∙ t.name_there in cc in
    let b : s.bytes ≡ t.bytes = let e : Some s.bytes ≡ Some t.bytes = sym s.bytes_there ∙ ap (slice_get files) same ∙ t.bytes_there in cc in
    let moved : IsFaultAt (take (length ds) listed) (length ds) t.name t.bytes f = subst (λ (k : ℕ). IsFaultAt (take k listed) k t.name t.bytes f) same (subst (λ (x : List ℕ). IsFaultAt (take (length cs) listed) (length cs) x t.bytes f) n (subst (λ (x : List ℕ). IsFaultAt (take (length cs) listed) (length cs) s.name x f) b s.fault)) in
    one_at r (take (length ds) listed) (length ds) t.name t.bytes f g (bytes (length ds) t.bytes (omega arith) t.bytes_there) moved t.fault

data Compared (m n : ℕ) : Type 0 where
  is_less : m < n → Compared m n
  is_same : m ≡ n → Compared m n
  is_more : n < m → Compared m n

compared_by : (m n : ℕ) → (m < n) ⊎ (n ≤ m) → (n < m) ⊎ (m ≤ n) → Compared m n
compared_by m n (inl h) k = is_less h
compared_by m n (inr h) (inl k) = is_more k
compared_by m n (inr h) (inr k) = is_same (omega arith)

compared : (m n : ℕ) → Compared m n
compared m n = compared_by m n (cases_lt m n) (cases_lt n m)

one_stop_at : OneReading → (listed files : List (List ℕ)) (f g : LoadFault) (cs ds : List Class) → Compared (length cs) (length ds) → AreBytes (length ds) files → StopsAt listed files cs f → StopsAt listed files ds g → f ≡ g
one_stop_at r listed files f g cs ds (is_less h) bytes s t = absurd (no_stop r listed files ds cs f t.first h (fewer (length cs) (length ds) (omega arith) files bytes) s)
one_stop_at r listed files f g cs ds (is_same h) bytes s t = one_stop_by r listed files f g cs ds h bytes s t
one_stop_at r listed files f g cs ds (is_more h) bytes s t = absurd (no_stop r listed files cs ds g s.first h bytes t)

pub one_stop : OneReading → (listed files : List (List ℕ)) (f g : LoadFault) (cs ds : List Class) → AreBytes (length ds) files → StopsAt listed files cs f → StopsAt listed files ds g → f ≡ g
one_stop r listed files f g cs ds bytes s t = one_stop_at r listed files f g cs ds (compared (length cs) (length ds)) bytes s t

-- a fault that stops the files is the one that they are refused with
pub stop_is : OneReading → (listed files : List (List ℕ)) (f g : LoadFault) (ds : List Class) → AreBytes (length ds) files → IsRefused listed files f → StopsAt listed files ds g → f ≡ g
stop_is r listed files f g ds bytes (in_file cs s) t = one_stop r listed files f g cs ds bytes s t
stop_is r listed files f g ds bytes (no_main cs n first none is) t =
    let less : length ds < length listed = slice_get_within listed (length ds) t.name t.name_there in
    absurd (no_stop r listed files cs ds g first (omega (arith, n)) bytes t)

-- files that all have classes are refused for want of app/Main alone
pub refused_last : OneReading → (listed files : List (List ℕ)) (f : LoadFault) (cs : List Class) → length cs ≡ length listed → AreBytes (length cs) files → AreFirst listed files cs → IsRefused listed files f → (has listed main_name ≡ false) × (f ≡ load.NoMain)
refused_last r listed files f cs n bytes first (in_file ds s) =
    let less : length ds < length listed = slice_get_within listed (length ds) s.name s.name_there in
    absurd (no_stop r listed files cs ds f first (omega (arith, n)) (fewer (length ds) (length cs) (omega (arith, n)) files bytes) s)
refused_last r listed files f cs n bytes first (no_main ds m g none is) = (none, is)

-- ---- the law

pub never_both : OneReading → (listed files : List (List ℕ)) (cs : List Class) (f : LoadFault) → length listed ≡ length files → AreBytes (length files) files → Loads listed files cs → IsRefused listed files f → ⊥
never_both r listed files cs f same bytes h g =
    let p = refused_last r listed files f cs h.count (fewer (length cs) (length files) (omega (arith, h.count, same)) files bytes) h.first g in
    let two : true ≡ false = sym h.main ∙ p.0 in
    absurd cc

one_fault_by : OneReading → (listed files : List (List ℕ)) (f g : LoadFault) → length listed ≡ length files → AreBytes (length files) files → IsRefused listed files f → IsRefused listed files g → f ≡ g
one_fault_by r listed files f g same bytes h (in_file ds s) =
    let less : length ds < length listed = slice_get_within listed (length ds) s.name s.name_there in
    stop_is r listed files f g ds (fewer (length ds) (length files) (omega (arith, same)) files bytes) h s
one_fault_by r listed files f g same bytes h (no_main ds n first none is) =
    (refused_last r listed files f ds n (fewer (length ds) (length files) (omega (arith, n, same)) files bytes) first h).1 ∙ sym is

pub one_fault : OneReading → (listed files : List (List ℕ)) (f g : LoadFault) → length listed ≡ length files → AreBytes (length files) files → IsRefused listed files f → IsRefused listed files g → f ≡ g
one_fault r listed files f g same bytes h k = one_fault_by r listed files f g same bytes h k
