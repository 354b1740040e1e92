-- A row of things, when one more of them was right.
use Rattle.std.proofs.Common.{◌≡◌, ◌⊎◌, ◌∙◌, ◌<◌, ◌+◌, inl, inr, ap, sym, refl, add-one, append_assoc, ℕ, suc, List, [], ◌∷◌, ◌++◌, map, length, drop, drop-cons, get_or, Result, Ok, Err}
use Rattle.std.specs.Prelude.{codes}
use Rattle.ext_draft.specs.Paths.{nth, inside}
use Rattle.ext_parser.specs.SecondWalk.{Checked, right, then, fresh, known_at, all_fresh, all_known, row}
use Rattle.ext_parser.specs.declared.fault.ProjectFault.{ProjectFault}
use Rattle.ext_parser.specs.declared.fault.ProjectFault.TheVariants.{Memory}

right-of : (checked : Checked) → (◌≡◌ {A = Checked} right (Err Memory)) ⊎ (right ≡ checked) → checked ≡ right
right-of checked is = elim is [ inl wanted ↦ cc | inr found ↦ sym found ]

then-right : {A : Type 0} (checked : Checked) (next : Unit {0} → Result A ProjectFault) → checked ≡ right → then checked next ≡ next tt
then-right checked next is = ap (λ (c : Checked). then c next) is

then-then : {A : Type 0} (checked : Checked) (all more : A) → all ≡ more → then checked (λ _. Ok all) ≡ then checked (λ _. Ok more)
then-then (Ok tt) all more is = ap (λ (x : _). Ok x) is
then-then (Err fault) all more is = refl

one-more : {A : Type 0} (name : A → List ℕ) (inner : List ℕ → A → Checked) (path : List ℕ) (n : ℕ) (before : List (List ℕ)) (x : A) (xs : List A)
    → (◌≡◌ {A = Checked} right (Err Memory)) ⊎ (right ≡ fresh (inside (nth path n) ++ codes "name") before (name x))
    → (◌≡◌ {A = Checked} right (Err Memory)) ⊎ (right ≡ inner (inside (nth path n)) x)
    → then (row name inner path n before (x ∷ xs)) (λ _. Ok (before ++ map name (x ∷ xs)))
    ≡ then (row name inner path (suc n) (before ++ name x ∷ []) xs) (λ _. Ok ((before ++ name x ∷ []) ++ map name xs))
one-more {A} name inner path n before x xs named checked =
    let first : fresh (inside (nth path n) ++ codes "name") before (name x) ≡ right = right-of _ named in
    let second : inner (inside (nth path n)) x ≡ right = right-of _ checked in
    let rest : Checked = row name inner path (suc n) (before ++ name x ∷ []) xs in
    let all : Unit {0} → Result (List (List ℕ)) ProjectFault = λ _. Ok (before ++ map name (x ∷ xs)) in
    ap (λ (c : Checked). then (then c (λ _. then (inner (inside (nth path n)) x) (λ _. rest))) all) first
    ∙ ap (λ (c : Checked). then (then c (λ _. rest)) all) second
    ∙ then-then rest (before ++ map name (x ∷ xs)) ((before ++ name x ∷ []) ++ map name xs) (sym (append_assoc before (name x ∷ []) (map name xs)))

-- the thing at place n was right, and its name comes after those before it
pub row-on : {A : Type 0} (name : A → List ℕ) (inner : List ℕ → A → Checked) (path : List ℕ) (n : ℕ) (before now : List (List ℕ)) (things : List A) (x : A)
    (all : Result (List (List ℕ)) ProjectFault)
    → all ≡ then (row name inner path n before (drop n things)) (λ _. Ok (before ++ map name (drop n things)))
    → n < length things → x ≡ get_or things n x
    → (◌≡◌ {A = Checked} right (Err Memory)) ⊎ (right ≡ fresh (inside (nth path n) ++ codes "name") before (name x))
    → (◌≡◌ {A = Checked} right (Err Memory)) ⊎ (right ≡ inner (inside (nth path n)) x)
    → now ≡ before ++ name x ∷ []
    → all ≡ then (row name inner path (n + 1) now (drop (n + 1) things)) (λ _. Ok (now ++ map name (drop (n + 1) things)))
row-on {A} name inner path n before now things x all so_far below is named checked then_now =
    let left : drop n things ≡ x ∷ drop (suc n) things
    = drop-cons things n x below ∙ ap (λ (d : A). d ∷ drop (suc n) things) (sym is) in
    let on : ℕ → List (List ℕ) → Result (List (List ℕ)) ProjectFault
    = λ k names. then (row name inner path k names (drop k things)) (λ _. Ok (names ++ map name (drop k things))) in
    so_far
    ∙ ap (λ (xs : List A). then (row name inner path n before xs) (λ _. Ok (before ++ map name xs))) left
    ∙ one-more name inner path n before x (drop (suc n) things) named checked
    ∙ ap (λ k. on k (before ++ name x ∷ [])) (sym (add-one n))
    ∙ ap (λ (names : List (List ℕ)). on (n + 1) names) (sym then_now)

-- a fault among the first ends the walk
pub stops-at : {A : Type 0} (e : ProjectFault) (checked later all : Checked) (more : A)
    → (◌≡◌ {A = Result A ProjectFault} (Err e) (Err Memory)) ⊎ (Err e ≡ then checked (λ _. Ok more))
    → all ≡ then checked (λ _. later)
    → (◌≡◌ {A = Checked} (Err e) (Err Memory)) ⊎ (Err e ≡ all)
stops-at {A} e (Ok tt) later all more is goes =
    elim is [
      | inl wanted ↦ let same : e ≡ Memory = cc in inl (ap (λ f. Err f) same)
      | inr found ↦ let no : ◌≡◌ {A = Result A ProjectFault} (Err e) (Ok more) = found in cc
    ]
stops-at {A} e (Err f) later all more is goes =
    elim is [
      | inl wanted ↦ let same : e ≡ Memory = cc in inl (ap (λ g. Err g) same)
      | inr found ↦ let same : e ≡ f = cc in inr (ap (λ g. Err g) same ∙ sym goes)
    ]

-- without one it goes on with what was found
pub goes-on : {A : Type 0} (found more : A) (checked : Checked) (later : A → Checked) (all : Checked)
    → (◌≡◌ {A = Result A ProjectFault} (Ok found) (Err Memory)) ⊎ (Ok found ≡ then checked (λ _. Ok more))
    → all ≡ then checked (λ _. later more)
    → all ≡ later found
goes-on {A} found more (Ok tt) later all is goes =
    elim is [ inl wanted ↦ cc | inr same ↦ let e : more ≡ found = cc in goes ∙ ap later e ]
goes-on {A} found more (Err f) later all is goes =
    elim is [
      | inl wanted ↦ cc
      | inr same ↦ let no : ◌≡◌ {A = Result A ProjectFault} (Ok found) (Err f) = same in cc
    ]

-- the text at place n was fresh, and comes after those before it
pub fresh-on : (path : List ℕ) (n : ℕ) (before now texts : List (List ℕ)) (x : List ℕ) (all : Checked)
    → all ≡ all_fresh path n before (drop n texts) → n < length texts → x ≡ get_or texts n x
    → (◌≡◌ {A = Checked} right (Err Memory)) ⊎ (right ≡ fresh (nth path n) before x) → now ≡ before ++ x ∷ []
    → all ≡ all_fresh path (n + 1) now (drop (n + 1) texts)
fresh-on path n before now texts x all so_far below is checked then_now =
    let left : drop n texts ≡ x ∷ drop (suc n) texts = drop-cons texts n x below ∙ ap (λ (d : List ℕ). d ∷ drop (suc n) texts) (sym is) in
    so_far ∙ ap (all_fresh path n before) left
    ∙ then-right (fresh (nth path n) before x) (λ _. all_fresh path (suc n) (before ++ x ∷ []) (drop (suc n) texts)) (right-of _ checked)
    ∙ ap (λ k. all_fresh path k (before ++ x ∷ []) (drop k texts)) (sym (add-one n))
    ∙ ap (λ (names : List (List ℕ)). all_fresh path (n + 1) names (drop (n + 1) texts)) (sym then_now)

-- the entry at place n was fresh and known, and its name comes after those before it
pub known-on : {A : Type 0} (name : A → List ℕ) (known : List (List ℕ)) (path : List ℕ) (n : ℕ) (before now : List (List ℕ)) (entries : List A) (x : A) (all : Checked)
    → all ≡ all_known known path n before (map name (drop n entries)) → n < length entries → x ≡ get_or entries n x
    → (◌≡◌ {A = Checked} right (Err Memory)) ⊎ (right ≡ known_at known (nth path n) before (name x)) → now ≡ before ++ name x ∷ []
    → all ≡ all_known known path (n + 1) now (map name (drop (n + 1) entries))
known-on {A} name known path n before now entries x all so_far below is checked then_now =
    let left : drop n entries ≡ x ∷ drop (suc n) entries = drop-cons entries n x below ∙ ap (λ (d : A). d ∷ drop (suc n) entries) (sym is) in
    so_far ∙ ap (λ (xs : List A). all_known known path n before (map name xs)) left
    ∙ then-right (known_at known (nth path n) before (name x)) (λ _. all_known known path (suc n) (before ++ name x ∷ []) (map name (drop (suc n) entries))) (right-of _ checked)
    ∙ ap (λ k. all_known known path k (before ++ name x ∷ []) (map name (drop k entries))) (sym (add-one n))
    ∙ ap (λ (names : List (List ℕ)). all_known known path (n + 1) names (map name (drop (n + 1) entries))) (sym then_now)

-- a walk that gave a result was right, and the result is what it says
pub given : {A : Type 0} (found more : A) (checked : Checked) → (◌≡◌ {A = Result A ProjectFault} (Ok found) (Err Memory)) ⊎ (Ok found ≡ then checked (λ _. Ok more)) → (checked ≡ right) × (found ≡ more)
given {A} found more (Ok tt) is = elim is [ inl wanted ↦ cc | inr same ↦ let e : found ≡ more = cc in (refl, e) ]
given {A} found more (Err f) is = elim is [ inl wanted ↦ cc | inr same ↦ let no : ◌≡◌ {A = Result A ProjectFault} (Ok found) (Err f) = same in cc ]

-- a walk that failed was refused, or memory was wanting
pub refused : {A : Type 0} (fault : ProjectFault) (more : A) (checked : Checked) → (◌≡◌ {A = Result A ProjectFault} (Err fault) (Err Memory)) ⊎ (Err fault ≡ then checked (λ _. Ok more)) → (fault ≡ Memory) ⊎ (checked ≡ Err fault)
refused {A} fault more (Ok tt) is = elim is [ inl wanted ↦ inl cc | inr same ↦ let no : ◌≡◌ {A = Result A ProjectFault} (Err fault) (Ok more) = same in cc ]
refused {A} fault more (Err f) is = elim is [ inl wanted ↦ inl cc | inr same ↦ let e : fault ≡ f = cc in inr (ap (λ g. Err g) (sym e)) ]

pub refused-checked : (fault : ProjectFault) (checked : Checked) → (◌≡◌ {A = Checked} (Err fault) (Err Memory)) ⊎ (Err fault ≡ checked) → (fault ≡ Memory) ⊎ (checked ≡ Err fault)
refused-checked fault checked is = elim is [ inl wanted ↦ inl cc | inr same ↦ inr (sym same) ]

pub was-right : (checked : Checked) → (◌≡◌ {A = Checked} right (Err Memory)) ⊎ (right ≡ checked) → checked ≡ right
was-right = right-of

-- five walks in a row: what comes of them where the first that isn't right is the third, the fourth or the fifth, and where all are
abbrev pub five : Checked → Checked → Checked → Checked → Checked → Checked
five a b c d e = then a (λ _. then b (λ _. then c (λ _. then d (λ _. e))))

to-third : {B : Type 0} (a b c d e : Checked) (all : B) → a ≡ right → b ≡ right → then (five a b c d e) (λ _. Ok all) ≡ then (then c (λ _. then d (λ _. e))) (λ _. Ok all)
to-third {B} a b c d e all p q =
    ap (λ (x : Checked). then {B = B} (five x b c d e) (λ _. Ok all)) p ∙ ap (λ (x : Checked). then {B = B} (then x (λ _. then c (λ _. then d (λ _. e)))) (λ _. Ok all)) q

answered : {B : Type 0} (fault : ProjectFault) (result whole : Result B ProjectFault) → result ≡ Err fault → (fault ≡ Memory) ⊎ (whole ≡ Err fault) → (result ≡ Err Memory) ⊎ (result ≡ whole)
answered fault result whole is why = elim why [ inl wanted ↦ inl (is ∙ ap (λ g. Err g) wanted) | inr same ↦ inr (is ∙ sym same) ]

pub third-fails : {B : Type 0} (a b c d e : Checked) (all : B) (fault : ProjectFault) (result : Result B ProjectFault) → a ≡ right → b ≡ right → (fault ≡ Memory) ⊎ (c ≡ Err fault) → result ≡ Err fault
    → (result ≡ Err Memory) ⊎ (result ≡ then (five a b c d e) (λ _. Ok all))
third-fails {B} a b c d e all fault result p q why is =
    answered fault result (then (five a b c d e) (λ _. Ok all)) is
    (elim why [ inl wanted ↦ inl wanted | inr same ↦ inr (to-third a b c d e all p q ∙ ap (λ (x : Checked). then {B = B} (then x (λ _. then d (λ _. e))) (λ _. Ok all)) same) ])

pub fourth-fails : {B : Type 0} (a b c d e : Checked) (all : B) (fault : ProjectFault) (result : Result B ProjectFault) → a ≡ right → b ≡ right → c ≡ right → (fault ≡ Memory) ⊎ (d ≡ Err fault) → result ≡ Err fault
    → (result ≡ Err Memory) ⊎ (result ≡ then (five a b c d e) (λ _. Ok all))
fourth-fails {B} a b c d e all fault result p q r why is =
    answered fault result (then (five a b c d e) (λ _. Ok all)) is
    (elim why [
      | inl wanted ↦ inl wanted
      | inr same ↦ inr (to-third a b c d e all p q ∙ ap (λ (x : Checked). then {B = B} (then x (λ _. then d (λ _. e))) (λ _. Ok all)) r ∙ ap (λ (x : Checked). then {B = B} (then x (λ _. e)) (λ _. Ok all)) same)
    ])

pub fifth-fails : {B : Type 0} (a b c d e : Checked) (all : B) (fault : ProjectFault) (result : Result B ProjectFault) → a ≡ right → b ≡ right → c ≡ right → d ≡ right → (fault ≡ Memory) ⊎ (e ≡ Err fault) → result ≡ Err fault
    → (result ≡ Err Memory) ⊎ (result ≡ then (five a b c d e) (λ _. Ok all))
fifth-fails {B} a b c d e all fault result p q r s why is =
    answered fault result (then (five a b c d e) (λ _. Ok all)) is
    (elim why [
      | inl wanted ↦ inl wanted
      | inr same ↦ inr (to-third a b c d e all p q ∙ ap (λ (x : Checked). then {B = B} (then x (λ _. then d (λ _. e))) (λ _. Ok all)) r ∙ ap (λ (x : Checked). then {B = B} (then x (λ _. e)) (λ _. Ok all)) s ∙ ap (λ (x : Checked). then {B = B} x (λ _. Ok all)) same)
    ])

pub all-right : {B : Type 0} (a b c d e : Checked) (all : B) → a ≡ right → b ≡ right → c ≡ right → d ≡ right → e ≡ right → then (five a b c d e) (λ _. Ok all) ≡ Ok all
all-right {B} a b c d e all p q r s t =
    to-third a b c d e all p q ∙ ap (λ (x : Checked). then {B = B} (then x (λ _. then d (λ _. e))) (λ _. Ok all)) r ∙ ap (λ (x : Checked). then {B = B} (then x (λ _. e)) (λ _. Ok all)) s ∙ ap (λ (x : Checked). then {B = B} x (λ _. Ok all)) t
