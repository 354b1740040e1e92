-- The machine over code of any elements does what the machine over named instructions does, whatever its values are.
use Rattle.std.proofs.Common.{ℕ, zero, suc, ◌-◌, ◌++◌, nat_le, nat_lt, not, Bool, true, false, cond, List, [], ◌∷◌, map, length, replicate, Option, Some, None, Result, Ok, Err, ◌≡◌, refl, sym, ap, ◌∙◌, subst}
use Rattle.std.proofs.lemmas.List.{length-map}
use Rattle.item_types.specs.declared.decl.Names.{Names}
use Rattle.startup_rules.specs.Worlds.{World}
use Rattle.startup_rules.specs.Direct.{Rules}
use Rattle.machine_rules.specs.declared.action.First.{First}
use Rattle.machine_rules.specs.declared.action.First.TheVariants.{Initializer, Start}
use Rattle.machine_rules.specs.declared.action.Row.TheVariants.{Do, Store, Enter, Return}
use Rattle.machine_rules.specs.declared.fault.Fault.{Fault}
use Rattle.machine_rules.specs.declared.fault.Fault.TheVariants as fault
use Rattle.machine_rules.specs.declared.fault.Refusal.{Refusal}
use Rattle.machine_rules.specs.Rows.{Step}
use Rattle.machine_rules.specs.Machine.{Halt, Refuses, Stops, then, Domain, refuses, unless, popped, act, Frame, Program, Reader, all_references, opened, entering, storing, stays, stores, enters, moves, run, missing, first_fault, first, first_of, begins, starts, Method}
use Rattle.machine_rules.specs.Spelled.{unplaced, Spells, SameMethod, SameProgram, read_named}
use Rattle.machine_rules.specs.Values.{values, startup}
use Rattle.machine_rules.specs.Values.{opened as opening}

-- a frame told both ways
pub record Both {A : Type 0} (read : Reader A) (V : Type 0) : Type 0 where
  pub class : ℕ
  pub name : ℕ
  pub method : Method A
  pub named : Method Step
  pub limit : method.max_stack ≡ named.max_stack
  pub rest : List A
  pub names : List Step
  pub spelled : Spells read class rest names
  pub stack : List V
  pub locals : List (Option V)

abbrev one_way : {A : Type 0} {read : Reader A} {V : Type 0} → Both read V → Frame V A
one_way b = record { point = record { class = b.class; number = b.name; method = b.method; rest = b.rest }; stack = b.stack; locals = b.locals }

abbrev other_way : {A : Type 0} {read : Reader A} {V : Type 0} → Both read V → Frame V Step
other_way b = record { point = record { class = b.class; number = b.name; method = b.named; rest = b.names }; stack = b.stack; locals = b.locals }

abbrev by_code : {A : Type 0} {read : Reader A} {V : Type 0} → List (Both read V) → List (Frame V A)
by_code bs = map one_way bs

abbrev by_names : {A : Type 0} {read : Reader A} {V : Type 0} → List (Both read V) → List (Frame V Step)
by_names bs = map other_way bs

abbrev Ends : Type 0 → Type 0 → Type 0
Ends E X = Result (E × ℕ) (Halt Refusal X)

abbrev Goes : Type 0 → Type 0 → Type 0 → Type 0 → Type 0
Goes V A E X = List (Frame V A) × E → Ends E X

-- what follows is the same
abbrev Same : {V E X A : Type 0} (read : Reader A) → Goes V A E X → Goes V Step E X → Type 0
Same {V = V} {E = E} read k h = (bs : List (Both read V)) (e : E) → unplaced (k (by_code bs, e)) ≡ unplaced (h (by_names bs, e))

-- the frame after an instruction
abbrev on : {A : Type 0} {read : Reader A} {V : Type 0} (b : Both read V) (rest : List A) (is : List Step) → Spells read b.class rest is → List V → List (Option V) → Both read V
on b rest is sp st ls = record { class = b.class; name = b.name; method = b.method; named = b.named; limit = b.limit; rest = rest; names = is; spelled = sp; stack = st; locals = ls }

stays_same : {V E X A : Type 0} (read : Reader A) (p : Program A) (q : Program Step) (k : Goes V A E X) (h : Goes V Step E X) → Same read k h → (b : Both read V) (rest : List A) (is : List Step) (sp : Spells read b.class rest is) (bs : List (Both read V)) (r : Result (List V × E) (Halt Fault X)) →
    unplaced (then (stays p (one_way b).point rest b.locals (by_code bs) r) k) ≡ unplaced (then (stays q (other_way b).point is b.locals (by_names bs) r) h)
stays_same read p q k h next b rest is sp bs (Ok x) = next (on b rest is sp x.0 b.locals ∷ bs) x.1
stays_same read p q k h next b rest is sp bs (Err (Refuses f)) = refl
stays_same read p q k h next b rest is sp bs (Err (Stops x)) = refl

stores_same : {V E X A : Type 0} (read : Reader A) (p : Program A) (q : Program Step) (k : Goes V A E X) (h : Goes V Step E X) → Same read k h → (b : Both read V) (rest : List A) (is : List Step) (sp : Spells read b.class rest is) (bs : List (Both read V)) (e : E) (r : Result (List V × List (Option V)) (Halt Fault X)) →
    unplaced (then (stores p (one_way b).point rest (by_code bs) e r) k) ≡ unplaced (then (stores q (other_way b).point is (by_names bs) e r) h)
stores_same read p q k h next b rest is sp bs e (Ok x) = next (on b rest is sp x.0 x.1 ∷ bs) e
stores_same read p q k h next b rest is sp bs e (Err (Refuses f)) = refl
stores_same read p q k h next b rest is sp bs e (Err (Stops x)) = refl

-- the frame that a method opens
opened_both : {A : Type 0} (read : Reader A) {V : Type 0} (c : ℕ) (name : ℕ) (b : Method A) (m : Method Step) → SameMethod read c (Some b) (Some m) → (args : List V) → (x : Both read V) × (one_way x ≡ opened c name b args) × (other_way x ≡ opened c name m args)
opened_both read c name b m same args = (
  record { class = c; name = name; method = b; named = m; limit = same.0; rest = b.code; names = m.code; spelled = same.3; stack = []; locals = map Some args ++ replicate (b.max_locals - length args) None },
  refl,
  ap (λ n. record { point = record { class = c; number = name; method = m; rest = m.code }; stack = []; locals = map Some args ++ replicate (n - length args) None }) same.1,
)

same_unless : {A B C X : Type 0} (F : Result A (Halt Fault X) → C) (G : Result B (Halt Fault X) → C) (b : Bool) (f : Fault) (r : Result A (Halt Fault X)) (s : Result B (Halt Fault X)) →
    F (refuses f) ≡ G (refuses f) → F r ≡ G s → F (unless b f r) ≡ G (unless b f s)
same_unless F G true f r s x y = x
same_unless F G false f r s x y = y

enters_same : {V E X A : Type 0} (d : Domain V E X) (read : Reader A) (p : Program A) (q : Program Step) (k : Goes V A E X) (h : Goes V Step E X) → Same read k h → (b : Both read V) (rest : List A) (is : List Step) (sp : Spells read b.class rest is) (bs : List (Both read V)) (e : E) (below c : ℕ) (name : ℕ) (n : ℕ) (o : Option (Method A)) (r : Option (Method Step)) → SameMethod read c o r →
    unplaced (then (enters p (one_way b).point rest b.locals (by_code bs) e (entering d below o c name n b.stack)) k) ≡ unplaced (then (enters q (other_way b).point is b.locals (by_names bs) e (entering d below r c name n b.stack)) h)
enters_same d read p q k h next b rest is sp bs e below c name n None None same = refl
enters_same d read p q k h next b rest is sp bs e below c name n None (Some m) same = absurd same
enters_same d read p q k h next b rest is sp bs e below c name n (Some a) None same = absurd same
enters_same {V = V} {E = E} {X = X} {A = A} d read p q k h next b rest is sp bs e below c name n (Some a) (Some m) same =
    same_unless F G (nat_le 63 below) fault.Depth _ _ refl
    (subst (λ t. F (unless a.catches fault.Catches (body a)) ≡ G (unless t fault.Catches (body m))) same.2
    (same_unless F G a.catches fault.Catches _ _ refl (at (popped n b.stack []))))
  where
    F : Result (Frame V A × List V) (Halt Fault X) → Result (E × ℕ) (Halt Fault X)
    F r = unplaced (then (enters p (one_way b).point rest b.locals (by_code bs) e r) k)

    G : Result (Frame V Step × List V) (Halt Fault X) → Result (E × ℕ) (Halt Fault X)
    G r = unplaced (then (enters q (other_way b).point is b.locals (by_names bs) e r) h)

    last : {B : Type 0} → Method B → List V × List V → Result (Frame V B × List V) (Halt Fault X)
    last m r = unless (nat_lt m.max_locals n) fault.Local (unless (not (all_references d r.0)) fault.Kind (Ok (opened c name m r.0, r.1)))

    body : {B : Type 0} → Method B → Result (Frame V B × List V) (Halt Fault X)
    body m = then (popped n b.stack []) (last m)

    end : (r : List V × List V) → F (Ok (opened c name a r.0, r.1)) ≡ G (Ok (opened c name m r.0, r.1))
    end r =
        let x = opened_both read c name a m same r.0 in
        ap (λ f. F (Ok (f, r.1))) (sym x.1) ∙ (next (x.0 ∷ on b rest is sp r.1 b.locals ∷ bs) e ∙ ap (λ f. G (Ok (f, r.1))) x.2)

    at : (r : Result (List V × List V) (Halt Fault X)) → F (then r (last a)) ≡ G (then r (last m))
    at (Ok r) =
        subst (λ t. F (last a r) ≡ G (unless (nat_lt t n) fault.Local (unless (not (all_references d r.0)) fault.Kind (Ok (opened c name m r.0, r.1))))) same.1
        (same_unless F G (nat_lt a.max_locals n) fault.Local _ _ refl (same_unless F G (not (all_references d r.0)) fault.Kind _ _ refl (end r)))
    at (Err (Refuses f)) = refl
    at (Err (Stops x)) = refl

step_same : {V E X A : Type 0} (d : Domain V E X) (read : Reader A) (p : Program A) (q : Program Step) → SameProgram read p q → (k : Goes V A E X) (h : Goes V Step E X) → Same read k h →
    (c : ℕ) (name : ℕ) (method : Method A) (named : Method Step) (limit : method.max_stack ≡ named.max_stack) (rest : List A) (names : List Step) (sp : Spells read c rest names) (st : List V) (ls : List (Option V)) (bs : List (Both read V)) (e : E) →
    (let b : Both read V = record { class = c; name = name; method = method; named = named; limit = limit; rest = rest; names = names; spelled = sp; stack = st; locals = ls } in
    unplaced (then (moves d p (one_way b) (by_code bs) (read c rest) e) k) ≡ unplaced (then (moves d q (other_way b) (by_names bs) (read_named c names) e) h))
step_same d read p q same k h next c name method named limit rest [] sp st ls bs e = rw sp refl
step_same {V = V} d read p q same k h next c name method named limit rest (Do o ∷ is) sp st ls bs e =
    let b : Both read V = record { class = c; name = name; method = method; named = named; limit = limit; rest = rest; names = Do o ∷ is; spelled = sp; stack = st; locals = ls } in
    rw sp.1 (subst (λ m. unplaced (then (stays p (one_way b).point sp.0 ls (by_code bs) (act d (record { max_stack = method.max_stack; locals = ls }) o st e)) k) ≡ unplaced (then (stays q (other_way b).point is ls (by_names bs) (act d (record { max_stack = m; locals = ls }) o st e)) h)) limit
    (stays_same read p q k h next b sp.0 is sp.2 bs (act d (record { max_stack = method.max_stack; locals = ls }) o st e)))
step_same {V = V} d read p q same k h next c name method named limit rest (Store n ∷ is) sp st ls bs e =
    let b : Both read V = record { class = c; name = name; method = method; named = named; limit = limit; rest = rest; names = Store n ∷ is; spelled = sp; stack = st; locals = ls } in
    rw sp.1 (stores_same read p q k h next b sp.0 is sp.2 bs e (storing d n st ls))
step_same {V = V} d read p q same k h next c name method named limit rest (Enter a callee n ∷ is) sp st ls bs e =
    let b : Both read V = record { class = c; name = name; method = method; named = named; limit = limit; rest = rest; names = Enter a callee n ∷ is; spelled = sp; stack = st; locals = ls } in
    let long : length (by_code bs) ≡ length (by_names bs) = length-map bs one_way ∙ sym (length-map bs other_way) in
    rw sp.1 (subst (λ j. unplaced (then (enters p (one_way b).point sp.0 ls (by_code bs) e (entering d (length (by_code bs)) (p.method a callee) a callee n st)) k) ≡ unplaced (then (enters q (other_way b).point is ls (by_names bs) e (entering d j (q.method a callee) a callee n st)) h)) long
    (enters_same d read p q k h next b sp.0 is sp.2 bs e (length (by_code bs)) a callee n (p.method a callee) (q.method a callee) (same.method a callee)))
step_same d read p q same k h next c name method named limit rest (Return ∷ is) sp st ls bs e = rw sp.1 (next bs e)

run_same : {V E X A : Type 0} (d : Domain V E X) (read : Reader A) (p : Program A) (q : Program Step) → SameProgram read p q → (n : ℕ) (bs : List (Both read V)) (e : E) → unplaced (run d read p n (by_code bs) e) ≡ unplaced (run d read_named q n (by_names bs) e)
run_same d read p q same zero [] e = refl
run_same d read p q same zero (b ∷ bs) e = refl
run_same d read p q same (suc n) [] e = refl
run_same d read p q same (suc n) (b ∷ bs) e =
    step_same d read p q same (λ r. run d read p n r.0 r.1) (λ r. run d read_named q n r.0 r.1) (run_same d read p q same n) b.class b.name b.method b.named b.limit b.rest b.names b.spelled b.stack b.locals bs e

then_same : {A B X : Type 0} (r s : Result A (Halt Refusal X)) (k h : A → Result B (Halt Refusal X)) → unplaced r ≡ unplaced s → ((a : A) → unplaced (k a) ≡ unplaced (h a)) → unplaced (then r k) ≡ unplaced (then s h)
then_same {A = A} {X = X} (Ok a) (Ok b) k h q x = x a ∙ ap (λ a. unplaced (h a)) (same_ok a b q)
  where
    same_ok : (a b : A) → (let u : Result A (Halt Fault X) = Ok a in u ≡ Ok b) → a ≡ b
    same_ok a b q = cc
then_same (Ok a) (Err (Refuses y)) k h q x = cc
then_same (Ok a) (Err (Stops y)) k h q x = cc
then_same (Err (Refuses y)) (Ok b) k h q x = cc
then_same (Err (Stops y)) (Ok b) k h q x = cc
then_same (Err (Refuses y)) (Err (Refuses z)) k h q x = let e : y.fault ≡ z.fault = cc in ap (λ f. Err (Refuses f)) e
then_same (Err (Refuses y)) (Err (Stops z)) k h q x = cc
then_same (Err (Stops y)) (Err (Refuses z)) k h q x = cc
then_same (Err (Stops y)) (Err (Stops z)) k h q x = let e : y ≡ z = cc in ap (λ f. Err (Stops f)) e

missing_same : {V E X A : Type 0} (read : Reader A) (p : Program A) (q : Program Step) (k : Goes V A E X) (h : Goes V Step E X) → Same read k h → (name : First) (e : E) →
    unplaced (then (missing p name) (λ fs. k (fs, e))) ≡ unplaced (then (missing q name) (λ fs. h (fs, e)))
missing_same read p q k h next Initializer e = next [] e
missing_same read p q k h next Start e = refl

first_same : {V E X A : Type 0} (read : Reader A) (p : Program A) (q : Program Step) (k : Goes V A E X) (h : Goes V Step E X) → Same read k h → (c number : ℕ) (o : Option (Method A)) (r : Option (Method Step)) → SameMethod read c o r → (e : E) →
    unplaced (then (first p c number o) (λ fs. k (fs, e))) ≡ unplaced (then (first q c number r) (λ fs. h (fs, e)))
first_same read p q k h next c number None None same e = refl
first_same read p q k h next c number None (Some m) same e = absurd same
first_same read p q k h next c number (Some a) None same e = absurd same
first_same {V = V} {E = E} {X = X} {A = A} read p q k h next c number (Some a) (Some m) same e =
    subst (λ t. F (cond a.catches (caught p) (begun a)) ≡ G (cond t (caught q) (begun m))) same.2 (at a.catches)
  where
    F : Result (List (Frame V A)) (Halt Refusal X) → Result (E × ℕ) (Halt Fault X)
    F r = unplaced (then r (λ fs. k (fs, e)))

    G : Result (List (Frame V Step)) (Halt Refusal X) → Result (E × ℕ) (Halt Fault X)
    G r = unplaced (then r (λ fs. h (fs, e)))

    caught : {B : Type 0} → Program B → Result (List (Frame V B)) (Halt Refusal X)
    caught x = first_fault x c number fault.Catches

    begun : {B : Type 0} → Method B → Result (List (Frame V B)) (Halt Refusal X)
    begun m = Ok (opened c number m [] ∷ [])

    at : (b : Bool) → F (cond b (caught p) (begun a)) ≡ G (cond b (caught q) (begun m))
    at true = refl
    at false =
        let x = opened_both read c number a m same [] in
        ap (λ f. F (Ok (f ∷ []))) (sym x.1) ∙ (next (x.0 ∷ []) e ∙ ap (λ f. G (Ok (f ∷ []))) x.2)

begun_same : {V E X A : Type 0} (read : Reader A) (k : Goes V A E X) (h : Goes V Step E X) → Same read k h → (p : Program A) (q : Program Step) (c d : ℕ) → p.main ≡ c → q.main ≡ d → c ≡ d →
    ((number : ℕ) → SameMethod read c (p.method c number) (q.method c number)) → (name : First) (o : Option ℕ) (e : E) →
    unplaced (then (first_of p name o) (λ fs. k (fs, e))) ≡ unplaced (then (first_of q name o) (λ fs. h (fs, e)))
begun_same read k h next p q c d pc qd cd same name None e = (missing_same read p q k h next name e)
begun_same read k h next p q c d pc qd cd same name (Some number) e = rw (pc, qd, ← cd) (first_same read p q k h next c number (p.method c number) (q.method c number) (same number) e)

begins_same : {V E X A : Type 0} (d : Domain V E X) (read : Reader A) (p : Program A) (q : Program Step) → SameProgram read p q → (name : First) (n : ℕ) (e : E) → unplaced (begins d read p name n e) ≡ unplaced (begins d read_named q name n e)
begins_same d read p q same name n e =
    rw (same.first name) (begun_same read (λ r. run d read p n r.0 r.1) (λ r. run d read_named q n r.0 r.1) (run_same d read p q same n) p q p.main q.main refl refl same.main (same.method p.main) name (q.first name) e)

pub starts_same : {V E X A : Type 0} (d : Domain V E X) (read : Reader A) (p : Program A) (q : Program Step) → SameProgram read p q → (n : ℕ) (e : E) → unplaced (starts d read p n e) ≡ unplaced (starts d read_named q n e)
starts_same d read p q same n e =
    then_same (begins d read p Initializer n e) (begins d read_named q Initializer n e) _ _ (begins_same d read p q same Initializer n e) (λ a. begins_same d read p q same Start a.1 a.0)

same_opening : (w : World) (fs gs : List ℕ) → fs ≡ gs → opening fs w ≡ opening gs w
same_opening w fs gs e = ap (λ fields. opening fields w) e

pub spelled_startup_is_same : (g : Rules) (names : Names) (read : Reader ℕ) (p : Program ℕ) (q : Program Step) → SameProgram read p q → (budget : ℕ) (w : World) →
    unplaced (startup g names read p budget w) ≡ unplaced (startup g names read_named q budget w)
spelled_startup_is_same g names read p q same budget w =
    starts_same (values g names) read p q same budget (opening p.fields w) ∙ ap (λ e. unplaced (starts (values g names) read_named q budget e)) (same_opening w p.fields q.fields same.fields)
