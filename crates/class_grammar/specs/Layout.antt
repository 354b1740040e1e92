-- A layout: which bytes spell a value, where bytes are stuck and with which fault, and how they are read from left to right. This project's own.
use Rattle.std.specs.Prelude.{◌≡◌, ℕ, zero, suc, ◌+◌, ◌<◌, ◌^◌, Bool, true, false, cond, if◌then◌else◌, nat_lt, List, [], ◌++◌, length, take, drop, get_or, Option, Some, None, Result, Ok, Err}
use Rattle.std.specs.Int.{Width, byte_len, from_be_bytes, to_be_bytes}
use Rattle.class_pool.specs.declared.fault.ClassFault.{ClassFault}
use Rattle.class_pool.specs.declared.fault.ClassFault.TheVariants as fault

abbrev pub IsBytes : List ℕ → Type 0
IsBytes bytes = (i : ℕ) → get_or bytes i 0 < 256

pub record Place : Type 0 where
  pub rest : List ℕ
  pub at : ℕ

abbrev pub place : ℕ → List ℕ → Place
place at rest = record { rest = rest; at = at }

abbrev pub Outcome : Type 0 → Type 0
Outcome A = Result (A × Place) ClassFault

pub record Layout (A : Type 0) : Type 1 where
  pub Spells : A → List ℕ → Type 0
  pub Stuck : ℕ → List ℕ → ClassFault → Type 0
  pub read : Place → Outcome A

-- ---- a number, high byte first

pub record SpellsNumber (w : Width) (n : ℕ) (bytes : List ℕ) : Type 0 where
  pub fits : n < 256 ^ byte_len w
  pub bytes_are : bytes ≡ to_be_bytes w n

pub record IsShort (len at : ℕ) (rest : List ℕ) (f : ClassFault) : Type 0 where
  pub few : length rest < len
  pub is : f ≡ fault.Short at

unfoldable pub read_number : Width → Place → Outcome ℕ
read_number w p = if nat_lt (length p.rest) (byte_len w) then Err (fault.Short p.at) else Ok (from_be_bytes w (take (byte_len w) p.rest), place (p.at + byte_len w) (drop (byte_len w) p.rest))

abbrev pub number : Width → Layout ℕ
number w = record { Spells = SpellsNumber w; Stuck = IsShort (byte_len w); read = read_number w }

-- ---- a run of bytes

pub record SpellsRun (len : ℕ) (run : List ℕ) (bytes : List ℕ) : Type 0 where
  pub len_is : length run ≡ len
  pub bytes_are : bytes ≡ run

unfoldable pub read_run : ℕ → Place → Outcome (List ℕ)
read_run len p = if nat_lt (length p.rest) len then Err (fault.Short p.at) else Ok (take len p.rest, place (p.at + len) (drop len p.rest))

abbrev pub run : ℕ → Layout (List ℕ)
run len = record { Spells = SpellsRun len; Stuck = IsShort len; read = read_run len }

-- ---- no bytes, and a value

pub record SpellsNothing {A : Type 0} (x y : A) (bytes : List ℕ) : Type 0 where
  pub is : y ≡ x
  pub none : bytes ≡ []

abbrev pub pure : {A : Type 0} → A → Layout A
pure x = record { Spells = SpellsNothing x; Stuck = λ at rest f. ⊥; read = λ p. Ok (x, p) }

-- ---- no way on

abbrev pub refused : {A : Type 0} → ClassFault → Layout A
refused e = record { Spells = λ x bytes. ⊥; Stuck = λ at rest f. f ≡ e; read = λ p. Err e }

-- ---- one behind the other

pub record Both {A B : Type 0} (L : Layout A) (k : A → Layout B) (y : B) (bytes : List ℕ) : Type 0 where
  pub value : A
  pub front : List ℕ
  pub back : List ℕ
  pub parts : bytes ≡ front ++ back
  pub first : L.Spells value front
  pub second : (k value).Spells y back

pub data StuckIn {A B : Type 0} (L : Layout A) (k : A → Layout B) (at : ℕ) (rest : List ℕ) (f : ClassFault) : Type 0 where
  in_first : L.Stuck at rest f → StuckIn L k at rest f
  in_second : (x : A) (front back : List ℕ) → rest ≡ front ++ back → L.Spells x front → (k x).Stuck (at + length front) back f → StuckIn L k at rest f

abbrev pub and_then : {A B : Type 0} → Outcome A → (A → Layout B) → Outcome B
and_then (Ok r) k = (k r.0).read r.1
and_then (Err e) k = Err e

infixl 10 ◌>>=◌
abbrev pub ◌>>=◌ : {A B : Type 0} → Layout A → (A → Layout B) → Layout B
L >>= k = record { Spells = Both L k; Stuck = StuckIn L k; read = λ p. and_then (L.read p) k }

-- ---- one of two, by a test of what was read before

pub data Chosen {A : Type 0} (b : Bool) (L M : Layout A) (x : A) (bytes : List ℕ) : Type 0 where
  yes : b ≡ true → L.Spells x bytes → Chosen b L M x bytes
  no : b ≡ false → M.Spells x bytes → Chosen b L M x bytes

pub data StuckChosen {A : Type 0} (b : Bool) (L M : Layout A) (at : ℕ) (rest : List ℕ) (f : ClassFault) : Type 0 where
  yes_stuck : b ≡ true → L.Stuck at rest f → StuckChosen b L M at rest f
  no_stuck : b ≡ false → M.Stuck at rest f → StuckChosen b L M at rest f

abbrev pub choose : {A : Type 0} → Bool → Layout A → Layout A → Layout A
choose b L M = record { Spells = Chosen b L M; Stuck = StuckChosen b L M; read = λ p. cond b (L.read p) (M.read p) }

-- ---- a value that is checked, or turned into another, once it is read

pub record Turned {A B : Type 0} (L : Layout A) (f : A → Option B) (y : B) (bytes : List ℕ) : Type 0 where
  pub value : A
  pub first : L.Spells value bytes
  pub is : f value ≡ Some y

pub data StuckTurned {A B : Type 0} (L : Layout A) (f : A → Option B) (refuse : ℕ → A → ClassFault) (at : ℕ) (rest : List ℕ) (e : ClassFault) : Type 0 where
  in_value : L.Stuck at rest e → StuckTurned L f refuse at rest e
  wrong : (x : A) (front back : List ℕ) → rest ≡ front ++ back → L.Spells x front → f x ≡ None → e ≡ refuse at x → StuckTurned L f refuse at rest e

abbrev pub turn : {B : Type 0} → Option B → ClassFault → Place → Outcome B
turn (Some y) e q = Ok (y, q)
turn None e q = Err e

abbrev pub turned_by : {A B : Type 0} → Outcome A → (A → Option B) → (A → ClassFault) → Outcome B
turned_by (Ok r) f refuse = turn (f r.0) (refuse r.0) r.1
turned_by (Err e) f refuse = Err e

abbrev pub turned : {A B : Type 0} → Layout A → (A → Option B) → (ℕ → A → ClassFault) → Layout B
turned L f refuse = record { Spells = Turned L f; Stuck = StuckTurned L f refuse; read = λ p. turned_by (L.read p) f (refuse p.at) }

abbrev pub checked : {A : Type 0} → Layout A → (A → Bool) → (ℕ → A → ClassFault) → Layout A
checked L test refuse = turned L (λ x. cond (test x) (Some x) None) refuse

-- ---- a part that fills its bytes, with one fault for all that may be wrong in it

pub record Inside {A : Type 0} (len : ℕ) (L : Layout A) (x : A) (bytes : List ℕ) : Type 0 where
  pub fills : length bytes ≡ len
  pub first : L.Spells x bytes

pub data StuckInside {A : Type 0} (len : ℕ) (L : Layout A) (e : ClassFault) (at : ℕ) (rest : List ℕ) (f : ClassFault) : Type 0 where
  cut : IsShort len at rest f → StuckInside len L e at rest f
  unfilled : (front back : List ℕ) → rest ≡ front ++ back → length front ≡ len → ((x : A) → L.Spells x front → ⊥) → f ≡ e → StuckInside len L e at rest f

abbrev pub filled : {A : Type 0} → Outcome A → ClassFault → Place → Outcome A
filled (Err f) e q = Err e
filled (Ok r) e q = if nat_lt 0 (length r.1.rest) then Err e else Ok (r.0, q)

abbrev pub inside_by : {A : Type 0} → Outcome (List ℕ) → Layout A → ClassFault → Outcome A
inside_by (Err f) L e = Err f
inside_by (Ok r) L e = filled (L.read (place 0 r.0)) e r.1

abbrev pub inside : {A : Type 0} → ℕ → Layout A → (ℕ → ClassFault) → Layout A
inside len L refuse = record { Spells = Inside len L; Stuck = λ at rest f. StuckInside len L (refuse at) at rest f; read = λ p. inside_by (read_run len p) L (refuse p.at) }

-- ---- so many steps, each of which may look at what was found before it

unfoldable pub many : {A : Type 0} → ℕ → List A → (List A → Layout (List A)) → Layout (List A)
many zero found step = pure found
many (suc n) found step = step found >>= λ xs. many n (found ++ xs) step

-- ---- what a function that reads ensures: the outcome, unless memory fails

abbrev pub Reads : {A : Type 0} → Outcome A → Result A ClassFault → Place → Type 0
Reads outcome (Ok a) new = outcome ≡ Ok (a, new)
Reads outcome (Err e) new = (e ≡ fault.Memory → ⊥) → outcome ≡ Err e

-- the same of a value that is seen by view
abbrev pub ReadsBy : {X A : Type 0} → (X → A) → Outcome A → Result X ClassFault → Place → Type 0
ReadsBy view outcome (Ok a) new = outcome ≡ Ok (view a, new)
ReadsBy view outcome (Err e) new = (e ≡ fault.Memory → ⊥) → outcome ≡ Err e

-- a step that puts what it reads behind what was found
abbrev pub Grows : {A X : Type 0} → Outcome (List A) → Result X ClassFault → Place → List A → List A → Type 0
Grows {A} outcome (Ok u) new found after = (xs : List A) × (outcome ≡ Ok (xs, new)) × (after ≡ found ++ xs)
Grows outcome (Err e) new found after = (e ≡ fault.Memory → ⊥) → outcome ≡ Err e

-- the same of a whole file
abbrev pub Told : {A : Type 0} → Result A ClassFault → Result A ClassFault → Type 0
Told outcome (Ok a) = outcome ≡ Ok a
Told outcome (Err e) = (e ≡ fault.Memory → ⊥) → outcome ≡ Err e
