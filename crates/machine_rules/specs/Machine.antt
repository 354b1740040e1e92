-- The machine, whatever its values are: frames, operand stacks, locals, the budget and the order of faults (JVMS 2.6). This project's own profile.
use Rattle.std.specs.Prelude.{ℕ, zero, suc, ◌+◌, ◌-◌, ◌==◌, nat_le, nat_lt, not, ◌&&◌, Bool, true, cond, List, [], ◌∷◌, ◌++◌, length, map, replicate, set, slice_get, codes, Option, Some, None, Result, Ok, Err}
use Rattle.machine_rules.specs.Rows.{Act, Step, pops, adds}
use Rattle.machine_rules.specs.declared.action.Action.TheVariants as action
use Rattle.machine_rules.specs.declared.action.Row.TheVariants.{Do, Store, Enter, Return}
use Rattle.machine_rules.specs.declared.action.First.{First}
use Rattle.machine_rules.specs.declared.action.First.TheVariants.{Initializer, Start}
use Rattle.machine_rules.specs.declared.fault.Fault.{Fault}
use Rattle.machine_rules.specs.declared.fault.Fault.TheVariants as fault
use Rattle.machine_rules.specs.declared.fault.Place.{Place}
use Rattle.machine_rules.specs.declared.fault.Refusal.{Refusal}

-- a run that ends early: an instruction isn't run, F says why; or another end, X
pub data Halt (F X : Type 0) : Type 0 where
  Refuses : F → Halt F X
  Stops : X → Halt F X

abbrev pub then : {A B Y : Type 0} → Result A Y → (A → Result B Y) → Result B Y
then (Ok a) f = f a
then (Err e) f = Err e

-- How values go through the machine: V are the values, E is what is kept beside the frames, X is an end that is no refusal. `does` takes an instruction's
-- operands, the deepest first, and gives what it pushes, the newest first. Its only refusal is Kind.
pub record Domain (V E X : Type 0) : Type 0 where
  pub units : V → ℕ
  pub is_reference : V → Bool
  pub does : Act → List V → E → Result (List V × E) (Halt Fault X)

abbrev pub refuses : {A X : Type 0} → Fault → Result A (Halt Fault X)
refuses f = Err (Refuses f)

-- refused where the test holds
abbrev pub unless : {A X : Type 0} → Bool → Fault → Result A (Halt Fault X) → Result A (Halt Fault X)
unless b f r = cond b (refuses f) r

-- the units of a stack
abbrev pub depth : {V E X : Type 0} → Domain V E X → List V → ℕ
depth d [] = 0
depth d (i ∷ st) = d.units i + depth d st

-- whether a stack of that depth has room for n units more; for none there always is
abbrev pub has_room : (max n deep : ℕ) → Bool
has_room max n deep = cond (n == 0) true (nat_le (n + deep) max)

-- n values popped, the deepest first, and what is left
abbrev pub popped : {V X : Type 0} → ℕ → List V → List V → Result (List V × List V) (Halt Fault X)
popped zero st items = Ok (items, st)
popped (suc n) [] items = refuses fault.Stack
popped (suc n) (i ∷ st) items = popped n st (i ∷ items)

-- a local that was set
abbrev pub was_set : {V X : Type 0} → Option (Option V) → Result (List V) (Halt Fault X)
was_set (Some (Some i)) = Ok (i ∷ [])
was_set (Some None) = refuses fault.Local
was_set None = refuses fault.Local

-- a local that is loaded is an operand as well
abbrev pub operands : {V X : Type 0} → Act → List (Option V) → List V → Result (List V) (Halt Fault X)
operands (action.Aload n) ls items = was_set (slice_get ls n)
operands _ ls items = Ok items

abbrev pub onto : {V E X : Type 0} → List V → Result (List V × E) (Halt Fault X) → Result (List V × E) (Halt Fault X)
onto st r = then r (λ r. Ok (r.0 ++ st, r.1))

-- what an instruction stands in: the limit of its method's stack, and its frame's locals
pub record Here (V : Type 0) : Type 0 where
  pub max_stack : ℕ
  pub locals : List (Option V)

-- An instruction inside its frame: Stack where there is no room or an operand is missing, then Local, then Kind, and then its effect. The stack's newest value stands first.
abbrev pub act : {V E X : Type 0} → Domain V E X → Here V → Act → List V → E → Result (List V × E) (Halt Fault X)
act d h o st e =
    unless (not (has_room h.max_stack (adds o) (depth d st))) fault.Stack (then (popped (pops o) st []) (λ r.
    then (operands o h.locals r.0) (λ items. onto r.1 (d.does o items e))))

-- the stack and the locals after a store
abbrev pub storing : {V E X : Type 0} → Domain V E X → ℕ → List V → List (Option V) → Result (List V × List (Option V)) (Halt Fault X)
storing d n [] ls = refuses fault.Stack
storing d n (i ∷ st) ls = unless (nat_le (length ls) n) fault.Local (unless (not (d.is_reference i)) fault.Kind (Ok (st, set ls n (Some i))))

-- a method, its code a list of any elements
pub record Method (A : Type 0) : Type 0 where
  pub code : List A
  pub max_stack : ℕ
  pub max_locals : ℕ
  pub catches : Bool

-- Loaded classes, numbered in the order of the list: which is app/Main, the places of its two first methods, the methods that have code by class and place, how
-- many fields each class has, and the names.
pub record Program (A : Type 0) : Type 0 where
  pub main : ℕ
  pub first : First → Option ℕ
  pub method : ℕ → ℕ → Option (Method A)
  pub fields : List ℕ
  pub class_name : ℕ → List ℕ
  pub method_name : ℕ → ℕ → List ℕ

-- how a class reads its code: the first instruction and what is left, or a fault of Opcode to NoMethod
abbrev pub Reader : Type 0 → Type 0
Reader A = ℕ → List A → Result (Step × List A) Fault

-- where a frame stands: its class, the method's place there, the method, and what is left of its code
pub record Point (A : Type 0) : Type 0 where
  pub class : ℕ
  pub number : ℕ
  pub method : Method A
  pub rest : List A

pub record Frame (V A : Type 0) : Type 0 where
  pub point : Point A
  pub stack : List V
  pub locals : List (Option V)

abbrev pub place_at : {A : Type 0} → Program A → ℕ → ℕ → ℕ → Place
place_at p c number pc = record { class = p.class_name c; method = p.method_name c number; pc = pc }

abbrev pub place_of : {A : Type 0} → Program A → Point A → Place
place_of p pt = place_at p pt.class pt.number (length pt.method.code - length pt.rest)

abbrev pub all_references : {V E X : Type 0} → Domain V E X → List V → Bool
all_references d [] = true
all_references d (i ∷ is) = d.is_reference i && all_references d is

-- a frame at the method's begin: the arguments are the first locals, and the others aren't set
abbrev pub opened : {V A : Type 0} → ℕ → ℕ → Method A → List V → Frame V A
opened c number m args = record {
  point = record { class = c; number = number; method = m; rest = m.code };
  stack = [];
  locals = map Some args ++ replicate (m.max_locals - length args) None;
}

-- A frame for a called method with n parameters, and the caller's stack without the arguments, where so many frames stand below the caller's: NoMethod, Depth at the
-- 65th frame, Catches, Stack, Local, Kind.
abbrev pub entering : {V E X A : Type 0} → Domain V E X → ℕ → Option (Method A) → ℕ → ℕ → ℕ → List V → Result (Frame V A × List V) (Halt Fault X)
entering d below None c number n st = refuses fault.NoMethod
entering d below (Some m) c number n st =
    unless (nat_le 63 below) fault.Depth (unless m.catches fault.Catches (then (popped n st []) (λ r.
    unless (nat_lt m.max_locals n) fault.Local (unless (not (all_references d r.0)) fault.Kind (Ok (opened c number m r.0, r.1))))))

-- a fault has its place
abbrev pub placed : {A B X : Type 0} → Program A → Point A → Result B (Halt Fault X) → Result B (Halt Refusal X)
placed p pt (Ok a) = Ok a
placed p pt (Err (Refuses f)) = Err (Refuses (record { fault = f; place = place_of p pt }))
placed p pt (Err (Stops x)) = Err (Stops x)

abbrev pub Moves : Type 0 → Type 0 → Type 0 → Type 0 → Type 0
Moves V A E X = Result (List (Frame V A) × E) (Halt Refusal X)

-- the frames after an instruction of the first one, what is left of its code known
abbrev pub stays : {V A E X : Type 0} → Program A → Point A → List A → List (Option V) → List (Frame V A) → Result (List V × E) (Halt Fault X) → Moves V A E X
stays p pt rest ls fs r = placed p pt (then r (λ r. Ok (record { point = record pt { rest = rest }; stack = r.0; locals = ls } ∷ fs, r.1)))

abbrev pub stores : {V A E X : Type 0} → Program A → Point A → List A → List (Frame V A) → E → Result (List V × List (Option V)) (Halt Fault X) → Moves V A E X
stores p pt rest fs e r = placed p pt (then r (λ r. Ok (record { point = record pt { rest = rest }; stack = r.0; locals = r.1 } ∷ fs, e)))

abbrev pub enters : {V A E X : Type 0} → Program A → Point A → List A → List (Option V) → List (Frame V A) → E → Result (Frame V A × List V) (Halt Fault X) → Moves V A E X
enters p pt rest ls fs e r = placed p pt (then r (λ r. Ok (r.0 ∷ record { point = record pt { rest = rest }; stack = r.1; locals = ls } ∷ fs, e)))

-- one instruction of the first frame
abbrev pub moves : {V E X A : Type 0} → Domain V E X → Program A → Frame V A → List (Frame V A) → Result (Step × List A) Fault → E → Moves V A E X
moves d p f fs (Err x) e = placed p f.point (refuses x)
moves d p f fs (Ok (Do o, rest)) e = stays p f.point rest f.locals fs (act d (record { max_stack = f.point.method.max_stack; locals = f.locals }) o f.stack e)
moves d p f fs (Ok (Store n, rest)) e = stores p f.point rest fs e (storing d n f.stack f.locals)
moves d p f fs (Ok (Enter c m n, rest)) e = enters p f.point rest f.locals fs e (entering d (length fs) (p.method c m) c m n f.stack)
moves d p f fs (Ok (Return, rest)) e = Ok (fs, e)

-- at most n instructions of these frames: what is kept beside them, and how many instructions are left
abbrev pub run : {V E X A : Type 0} → Domain V E X → Reader A → Program A → ℕ → List (Frame V A) → E → Result (E × ℕ) (Halt Refusal X)
run d read p zero [] e = Ok (e, zero)
run d read p zero (f ∷ fs) e = placed p f.point (refuses fault.Turns)
run d read p (suc n) [] e = Ok (e, suc n)
run d read p (suc n) (f ∷ fs) e = then (moves d p f fs (read f.point.class f.point.rest) e) (λ r. run d read p n r.0 r.1)

-- a first method that isn't there: a missing initializer does nothing
abbrev pub missing : {V A X : Type 0} → Program A → First → Result (List (Frame V A)) (Halt Refusal X)
missing p Initializer = Ok []
missing p Start = Err (Refuses (record { fault = fault.NoMethod; place = record { class = p.class_name p.main; method = codes "start"; pc = 0 } }))

abbrev pub first_fault : {A B X : Type 0} → Program A → ℕ → ℕ → Fault → Result B (Halt Refusal X)
first_fault p c number f = Err (Refuses (record { fault = f; place = place_at p c number 0 }))

abbrev pub first : {V A X : Type 0} → Program A → ℕ → ℕ → Option (Method A) → Result (List (Frame V A)) (Halt Refusal X)
first p c number None = first_fault p c number fault.NoMethod
first p c number (Some m) = cond m.catches (first_fault p c number fault.Catches) (Ok (opened c number m [] ∷ []))

abbrev pub first_of : {V A X : Type 0} → Program A → First → Option ℕ → Result (List (Frame V A)) (Halt Refusal X)
first_of p name None = missing p name
first_of p name (Some number) = first p p.main number (p.method p.main number)

-- a first method from its begin to its end
abbrev pub begins : {V E X A : Type 0} → Domain V E X → Reader A → Program A → First → ℕ → E → Result (E × ℕ) (Halt Refusal X)
begins d read p name n e = then (first_of p name (p.first name)) (λ fs. run d read p n fs e)

-- the initializer, and then start, on one budget
abbrev pub starts : {V E X A : Type 0} → Domain V E X → Reader A → Program A → ℕ → E → Result (E × ℕ) (Halt Refusal X)
starts d read p n e = then (begins d read p Initializer n e) (λ r. begins d read p Start r.1 r.0)
