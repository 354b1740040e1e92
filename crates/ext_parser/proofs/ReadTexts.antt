-- The trees of a project's texts are those that the reader of the language answers.
use Rattle.std.proofs.Common.{◌≡◌, ℕ, zero, suc, ◌+◌, true, false, List, [], ◌∷◌, ◌++◌, length, map, Result, Ok, Err, IfOk, refl, sym, ap, subst, ◌∙◌, arith, add-zero}
use Rattle.std.specs.Prelude.{Some, slice_get, codes}
use Rattle.std.specs.List.{AllZip, flat_map}
use Rattle.std.proofs.lemmas.List.{length-map}
use Rattle.item_types.specs.declared.decl.Names.{Names}
use Rattle.item_types.specs.declared.decl.RecorderDecl.{RecorderDecl}
use Rattle.item_types.specs.declared.step.StepDecl.{StepDecl}
use Rattle.syntax_tree.specs.declared.tree.Body.{Body}
use Rattle.syntax_tree.specs.declared.tree.Method.{Method}
use Rattle.syntax_tree.specs.Right.{IsRightMethod, AreRightMethods}
use Rattle.lang_grammar.specs.declared.fault.LangFault.{LangFault}
use Rattle.lang_names.specs.Names.{body_right, method_right}
use Rattle.step_lang.specs.Judge.{answer, body_made, method_made}
use Rattle.ext_draft.specs.Paths.{nth, inside}
use Rattle.ext_draft.specs.declared.draft.Draft.{Draft}
use Rattle.ext_draft.specs.declared.draft.DraftExtension.{DraftExtension}
use Rattle.ext_draft.specs.declared.draft.DraftMethod.{DraftMethod}
use Rattle.ext_draft.specs.declared.draft.DraftRecorder.{DraftRecorder}
use Rattle.ext_draft.specs.declared.draft.DraftStep.{DraftStep}
use Rattle.ext_draft.specs.declared.fault.DraftFault.{DraftFault}
use Rattle.ext_parser.specs.Declarations.{step_of, steps_of, method_of, recorder_of, recorders_of}
use Rattle.ext_parser.specs.ProjectOfTheBytes.{texts_of, project_of, project_of_draft}
use Rattle.ext_parser.specs.SecondWalk.{Checked, then, file_right}
use Rattle.ext_parser.specs.ThirdWalk.{parsed, body_at, method_at, methods_at, lists_at, bodies_at, extension_texts, texts_at, texts_with, no_texts}
use Rattle.ext_parser.specs.RightTexts.{IsReadMethod, AreReadMethods}
use Rattle.ext_parser.specs.declared.fault.ProjectFault.{ProjectFault}
use Rattle.ext_parser.specs.declared.project.Project.{Project}
use Rattle.ext_parser.specs.declared.texts.Texts.{Texts}
use Rattle.ext_parser.proofs.Numbers.{then-ok}

parsed-ok : {A : Type 0} (path : List ℕ) (r : Result A LangFault) (x : A) → parsed path r ≡ Ok x → r ≡ Ok x
parsed-ok path (Ok y) x e = let h : y ≡ x = cc in ap Ok h
parsed-ok path (Err f) x e = absurd cc

zip-append : {A B : Type 0} (R : A → B → Type 0) (xs us : List A) (ys vs : List B) → AllZip R xs ys → AllZip R us vs → AllZip R (xs ++ us) (ys ++ vs)
zip-append R [] us [] vs h g = g
zip-append R [] us (y ∷ ys) vs h g = absurd h
zip-append R (x ∷ xs) us [] vs h g = absurd h
zip-append R (x ∷ xs) us (y ∷ ys) vs h g = (h.0, zip-append R xs us ys vs h.1 g)

-- ---- methods by the numbers of their recorder and of themselves

module _ (M : ℕ → ℕ → Method → Type 0) where
  abbrev Each : ℕ → ℕ → List Method → Type 0
  Each recorder n [] = Unit {0}
  Each recorder n (m ∷ ms) = M recorder n m × Each recorder (suc n) ms

  abbrev pub ListsAre : ℕ → List RecorderDecl → List (List Method) → Type 0
  ListsAre n [] [] = Unit {0}
  ListsAre n [] (l ∷ ls) = ⊥
  ListsAre n (d ∷ ds) [] = ⊥
  ListsAre n (d ∷ ds) (l ∷ ls) = (length l ≡ length d.methods) × Each n 0 l × ListsAre (suc n) ds ls

  lists-append : (n : ℕ) (ds es : List RecorderDecl) (ls ks : List (List Method)) → ListsAre n ds ls → ListsAre (n + length ls) es ks → ListsAre n (ds ++ es) (ls ++ ks)
  lists-append n [] es [] ks h g = subst (λ k. ListsAre k es ks) (add-zero n) g
  lists-append n [] es (l ∷ ls) ks h g = absurd h
  lists-append n (d ∷ ds) es [] ks h g = absurd h
  lists-append n (d ∷ ds) es (l ∷ ls) ks h g =
      let same : n + length (l ∷ ls) ≡ suc n + length ls = omega arith in (h.0, h.1, lists-append (suc n) ds es ls ks h.2 (subst (λ k. ListsAre k es ks) same g))

  pub method-get : (recorder n i j : ℕ) (l : List Method) (m : Method) → j ≡ n + i → Each recorder n l → slice_get l i ≡ Some m → M recorder j m
  method-get recorder n i j [] m at h e = absurd cc
  method-get recorder n zero j (x ∷ l) m at h e = let same : x ≡ m = cc in let here : n ≡ j = omega arith in subst (λ k. M recorder k m) here (subst (λ y. M recorder n y) same h.0)
  method-get recorder n (suc i) j (x ∷ l) m at h e = method-get recorder (suc n) i j l m (omega arith) h.1 e

  pub record ListIs (recorder : ℕ) (d : RecorderDecl) (l : List Method) : Type 0 where
    pub count : length l ≡ length d.methods
    pub each : Each recorder 0 l

  pub list-get : (n i j : ℕ) (ds : List RecorderDecl) (ls : List (List Method)) (d : RecorderDecl) (l : List Method) → j ≡ n + i → ListsAre n ds ls → slice_get ds i ≡ Some d → slice_get ls i ≡ Some l → ListIs j d l
  list-get n i j [] ls d l at h e f = absurd cc
  list-get n i j (x ∷ ds) [] d l at h e f = absurd cc
  list-get n zero j (x ∷ ds) (y ∷ ls) d l at h e f =
      let a : x ≡ d = cc in
      let b : y ≡ l = cc in
      let here : n ≡ j = omega arith in
      record { count = ap length (sym b) ∙ h.0 ∙ ap (λ (d : RecorderDecl). length d.methods) a; each = subst (λ k. Each k 0 l) here (subst (λ w. Each n 0 w) b h.1) }
  list-get n (suc i) j (x ∷ ds) (y ∷ ls) d l at h e f = list-get (suc n) i j ds ls d l (omega arith) h.2 e f

  pub lists-long : (n : ℕ) (ds : List RecorderDecl) (ls : List (List Method)) → ListsAre n ds ls → length ls ≡ length ds
  lists-long n [] [] h = refl
  lists-long n [] (l ∷ ls) h = absurd h
  lists-long n (d ∷ ds) [] h = absurd h
  lists-long n (d ∷ ds) (l ∷ ls) h = ap suc (lists-long (suc n) ds ls h.2)

-- ---- what is read by the third walk

module _ (names : Names) (B : StepDecl → Body → Type 0) (M : ℕ → ℕ → Method → Type 0)
    (body : (decl : StepDecl) (text : List ℕ) (b : Body) → answer body_made true names (body_right names decl) text ≡ Ok b → B decl b)
    (method : (recorder m : ℕ) (text : List ℕ) (x : Method) → answer method_made false names (method_right names recorder m) text ≡ Ok x → M recorder m x) where
  bodies-are : (items on : List (List ℕ)) (extension path : List ℕ) (n : ℕ) (steps : List DraftStep) (trees : List Body) → bodies_at names items on extension path n steps ≡ Ok trees
      → AllZip B (map (step_of items on extension) steps) trees
  bodies-are items on extension path n [] [] h = tt
  bodies-are items on extension path n [] (t ∷ ts) h = absurd cc
  bodies-are items on extension path n (s ∷ steps) trees h =
      let a = then-ok (body_at names (inside (nth path n)) (step_of items on extension s) s.body) (λ tree. then (bodies_at names items on extension path (suc n) steps) (λ more. Ok (tree ∷ more))) trees h in
      let r = then-ok (bodies_at names items on extension path (suc n) steps) (λ more. Ok (a.0 ∷ more)) trees a.2 in
      let is : a.0 ∷ r.0 ≡ trees = (let e = r.2 in cc) in
      subst (λ w. AllZip B (map (step_of items on extension) (s ∷ steps)) w) is (
        body (step_of items on extension s) s.body a.0 (parsed-ok (inside (nth path n) ++ codes "body") (answer body_made true names (body_right names (step_of items on extension s)) s.body) a.0 a.1),
        bodies-are items on extension path (suc n) steps r.0 r.1,
      )

  record MethodsAre (recorder n count : ℕ) (trees : List Method) : Type 0 where
    many : length trees ≡ count
    each : Each M recorder n trees

  methods-are : (recorder : ℕ) (path : List ℕ) (n : ℕ) (ms : List DraftMethod) (trees : List Method) → methods_at names recorder path n ms ≡ Ok trees → MethodsAre recorder n (length ms) trees
  methods-are recorder path n [] [] h = record { many = refl; each = tt }
  methods-are recorder path n [] (t ∷ ts) h = absurd cc
  methods-are recorder path n (m ∷ ms) trees h =
      let a = then-ok (method_at names (inside (nth path n)) recorder n m.body) (λ tree. then (methods_at names recorder path (suc n) ms) (λ more. Ok (tree ∷ more))) trees h in
      let r = then-ok (methods_at names recorder path (suc n) ms) (λ more. Ok (a.0 ∷ more)) trees a.2 in
      let is : a.0 ∷ r.0 ≡ trees = (let e = r.2 in cc) in
      let rest : MethodsAre recorder (suc n) (length ms) r.0 = methods-are recorder path (suc n) ms r.0 r.1 in
      subst (λ w. MethodsAre recorder n (length (m ∷ ms)) w) is (record {
        many = ap suc rest.many;
        each = (method recorder n m.body a.0 (parsed-ok (inside (nth path n) ++ codes "body") (answer method_made false names (method_right names recorder n) m.body) a.0 a.1), rest.each);
      })

  lists-are : (number : ℕ) (path : List ℕ) (n : ℕ) (recorders : List DraftRecorder) (lists : List (List Method)) → lists_at names number path n recorders ≡ Ok lists → ListsAre M number (map recorder_of recorders) lists
  lists-are number path n [] [] h = tt
  lists-are number path n [] (l ∷ ls) h = absurd cc
  lists-are number path n (r ∷ recorders) lists h =
      let a = then-ok (methods_at names number (inside (nth path n) ++ codes "methods") 0 r.methods) (λ list. then (lists_at names (suc number) path (suc n) recorders) (λ more. Ok (list ∷ more))) lists h in
      let b = then-ok (lists_at names (suc number) path (suc n) recorders) (λ more. Ok (a.0 ∷ more)) lists a.2 in
      let is : a.0 ∷ b.0 ≡ lists = (let e = b.2 in cc) in
      let here : MethodsAre number 0 (length r.methods) a.0 = methods-are number (inside (nth path n) ++ codes "methods") 0 r.methods a.0 a.1 in
      subst (λ w. ListsAre M number (map recorder_of (r ∷ recorders)) w) is (here.many ∙ sym (length-map r.methods method_of), here.each, lists-are (suc number) path (suc n) recorders b.0 b.1)

  pub record TextsAre (items on : List (List ℕ)) (number : ℕ) (es : List DraftExtension) (t : Texts) : Type 0 where
    pub bodies : AllZip B (flat_map (steps_of items on) es) t.bodies
    pub lists : ListsAre M number (recorders_of es) t.lists

  record ExtensionIs (items on : List (List ℕ)) (number : ℕ) (e : DraftExtension) (t : Texts) : Type 0 where
    bodies : AllZip B (steps_of items on e) t.bodies
    lists : ListsAre M number (map recorder_of e.recorders) t.lists

  extension-is : (items on : List (List ℕ)) (number : ℕ) (prefix : List ℕ) (e : DraftExtension) (t : Texts) → extension_texts names items on number prefix e ≡ Ok t → ExtensionIs items on number e t
  unfolding extension_texts
  extension-is items on number prefix e t h =
      let a = then-ok (lists_at names number (prefix ++ codes "recorders") 0 e.recorders) (λ lists. then (bodies_at names items on e.name (prefix ++ codes "steps") 0 e.steps) (λ bodies. Ok (record { lists = lists; bodies = bodies }))) t h in
      let b = then-ok (bodies_at names items on e.name (prefix ++ codes "steps") 0 e.steps) (λ bodies. Ok (record { lists = a.0; bodies = bodies })) t a.2 in
      let made : Texts = record { lists = a.0; bodies = b.0 } in
      let is : made ≡ t = (let f = b.2 in cc) in
      subst (λ w. ExtensionIs items on number e w) is (record { bodies = bodies-are items on e.name (prefix ++ codes "steps") 0 e.steps b.0 b.1; lists = lists-are number (prefix ++ codes "recorders") 0 e.recorders a.0 a.1 })

  pub texts-are : (items on : List (List ℕ)) (number n : ℕ) (es : List DraftExtension) (t : Texts) → texts_at names items on number n es ≡ Ok t → TextsAre items on number es t
  texts-are items on number n [] t h = let is : no_texts ≡ t = cc in subst (λ w. TextsAre items on number [] w) is (record { bodies = tt; lists = tt })
  texts-are items on number n (e ∷ es) t h =
      let a = then-ok (extension_texts names items on number (inside (nth (codes "extensions") n)) e) (λ now. then (texts_at names items on (number + length now.lists) (suc n) es) (λ more. Ok (texts_with now more))) t h in
      let b = then-ok (texts_at names items on (number + length a.0.lists) (suc n) es) (λ more. Ok (texts_with a.0 more)) t a.2 in
      let is : texts_with a.0 b.0 ≡ t = (let f = b.2 in cc) in
      let now : ExtensionIs items on number e a.0 = extension-is items on number (inside (nth (codes "extensions") n)) e a.0 a.1 in
      let more : TextsAre items on (number + length a.0.lists) es b.0 = texts-are items on (number + length a.0.lists) (suc n) es b.0 b.1 in
      subst (λ w. TextsAre items on number (e ∷ es) w) is (record {
        bodies = zip-append B (steps_of items on e) (flat_map (steps_of items on) es) a.0.bodies b.0.bodies now.bodies more.bodies;
        lists = lists-append M number (map recorder_of e.recorders) (recorders_of es) a.0.lists b.0.lists now.lists more.lists;
      })

-- ---- the project

with-texts : (P : Project → Type 0) (d : Draft) (r : Result Texts ProjectFault) → ((t : Texts) → r ≡ Ok t → P (project_of d t)) → IfOk (then r (λ t. Ok (project_of d t))) P
with-texts P d (Ok t) holds = holds t refl
with-texts P d (Err f) holds = tt

with-check : (P : Project → Type 0) (d : Draft) (checked : Checked) → ((t : Texts) → texts_of d ≡ Ok t → P (project_of d t)) → IfOk (then checked (λ _. then (texts_of d) (λ t. Ok (project_of d t)))) P
with-check P d (Ok x) holds = with-texts P d (texts_of d) holds
with-check P d (Err f) holds = tt

pub of-draft : (P : Project → Type 0) (r : Result Draft DraftFault) → ((d : Draft) (t : Texts) → texts_of d ≡ Ok t → P (project_of d t)) → IfOk (project_of_draft r) P
of-draft P (Ok d) holds = with-check P d (file_right d) (holds d)
of-draft P (Err f) holds = tt

pub read-methods : (names : Names) (lists : List (List Method)) → ListsAre (IsReadMethod names) 0 names.recorders lists → AreReadMethods names (record { lists = lists })
read-methods names lists h = record {
  count = lists-long (IsReadMethod names) 0 names.recorders lists h;
  read = λ recorder decl list e f.
      let l : ListIs (IsReadMethod names) recorder decl list = list-get (IsReadMethod names) 0 recorder recorder names.recorders lists decl list (omega arith) h e f in
      record { count = l.count; read = λ i m g. method-get (IsReadMethod names) recorder 0 i i list m (omega arith) l.each g };
}

abbrev RightAt : Names → ℕ → ℕ → Method → Type 0
RightAt names recorder i m = IsRightMethod names recorder m

pub right-methods : (names : Names) (lists : List (List Method)) → ListsAre (λ recorder i m. IsRightMethod names recorder m) 0 names.recorders lists → AreRightMethods names (record { lists = lists })
right-methods names lists h = record {
  count = lists-long (RightAt names) 0 names.recorders lists h;
  right = λ recorder decl list e f.
      let l : ListIs (RightAt names) recorder decl list = list-get (RightAt names) 0 recorder recorder names.recorders lists decl list (omega arith) h e f in
      record { count = l.count; right = λ i m g. method-get (RightAt names) recorder 0 i i list m (omega arith) l.each g };
}
