-- The trees of a file's texts, when more of them were read.
use Rattle.std.proofs.Common.{◌≡◌, ◌⊎◌, ◌∙◌, ◌+◌, ◌<◌, ◌≤◌, inl, inr, ap, sym, refl, arith, add-one, append_assoc, ℕ, suc, List, [], ◌∷◌, ◌++◌, length, length-append, drop, drop-cons, get_or, Result, Ok, Err}
use Rattle.std.specs.List.{flat_map}
use Rattle.std.specs.Prelude.{codes}
use Rattle.item_types.specs.declared.decl.Names.{Names}
use Rattle.syntax_tree.specs.declared.tree.Method.{Method}
use Rattle.ext_draft.specs.Paths.{nth, inside}
use Rattle.ext_draft.specs.declared.draft.DraftExtension.{DraftExtension}
use Rattle.ext_draft.specs.declared.draft.DraftRecorder.{DraftRecorder}
use Rattle.ext_parser.specs.SecondWalk.{then}
use Rattle.ext_parser.specs.ThirdWalk.{methods_at, lists_at, extension_texts, texts_at, texts_with}
use Rattle.ext_parser.specs.declared.fault.ProjectFault.{ProjectFault}
use Rattle.ext_parser.specs.declared.fault.ProjectFault.TheVariants.{Memory}
use Rattle.ext_parser.specs.declared.texts.Texts.{Texts}

-- the trees found so far, and then the rest
abbrev pub after : {A : Type 0} → List A → Result (List A) ProjectFault → Result (List A) ProjectFault
after found (Ok rest) = Ok (found ++ rest)
after found (Err fault) = Err fault

push-on : {A : Type 0} (found : List A) (x : A) (rest : Result (List A) ProjectFault)
    → after found (then rest (λ more. Ok (x ∷ more))) ≡ after (found ++ x ∷ []) rest
push-on {A} found x (Ok more) = ap (λ (all : List A). Ok all) (sym (append_assoc found (x ∷ []) more))
push-on found x (Err fault) = refl

list-on : (names : Names) (number : ℕ) (path : List ℕ) (n : ℕ) (recorders : List DraftRecorder) (found : List (List Method)) (list : List Method) (read : Result (List Method) ProjectFault)
    → read ≡ Ok list
    → after found (then read (λ x. then (lists_at names number path n recorders) (λ more. Ok (x ∷ more)))) ≡ after (found ++ list ∷ []) (lists_at names number path n recorders)
list-on names number path n recorders found list read is =
    ap (λ (r : Result (List Method) ProjectFault). after found (then r (λ x. then (lists_at names number path n recorders) (λ more. Ok (x ∷ more))))) is
    ∙ push-on found list (lists_at names number path n recorders)

pub one_more_list : (names : Names) (first : ℕ) (path : List ℕ) (n : ℕ) (r : DraftRecorder) (recorders : List DraftRecorder) (found : List (List Method)) (list : List Method)
    → methods_at names (first + n) (inside (nth path n) ++ codes "methods") 0 r.methods ≡ Ok list
    → after found (lists_at names (first + n) path n (r ∷ recorders)) ≡ after (found ++ list ∷ []) (lists_at names (first + (n + 1)) path (n + 1) recorders)
one_more_list names first path n r recorders found list is =
    let next : suc (first + n) ≡ first + (n + 1) = omega arith in
    list-on names (suc (first + n)) path (suc n) recorders found list (methods_at names (first + n) (inside (nth path n) ++ codes "methods") 0 r.methods) is
    ∙ ap (λ k. after (found ++ list ∷ []) (lists_at names k path (suc n) recorders)) next
    ∙ ap (λ k. after (found ++ list ∷ []) (lists_at names (first + (n + 1)) path k recorders)) (sym (add-one n))

joined-on : (found now : Texts) (rest : Result Texts ProjectFault)
    → then (then rest (λ more. Ok (texts_with now more))) (λ more. Ok (texts_with found more)) ≡ then rest (λ more. Ok (texts_with (texts_with found now) more))
joined-on found now (Ok more) =
    let same : texts_with found (texts_with now more) ≡ texts_with (texts_with found now) more
    = λ i. record { lists = sym (append_assoc found.lists now.lists more.lists) i; bodies = sym (append_assoc found.bodies now.bodies more.bodies) i } in
    ap (λ (t : Texts). Ok t) same
joined-on found now (Err fault) = refl

extension-on : (names : Names) (items on : List (List ℕ)) (number n : ℕ) (es : List DraftExtension) (found now : Texts) (read : Result Texts ProjectFault)
    → read ≡ Ok now
    → then (then read (λ x. then (texts_at names items on (number + length x.lists) n es) (λ more. Ok (texts_with x more)))) (λ more. Ok (texts_with found more))
    ≡ then (texts_at names items on (number + length now.lists) n es) (λ more. Ok (texts_with (texts_with found now) more))
extension-on names items on number n es found now read is =
    ap (λ (r : Result Texts ProjectFault). then (then r (λ x. then (texts_at names items on (number + length x.lists) n es) (λ more. Ok (texts_with x more)))) (λ more. Ok (texts_with found more))) is
    ∙ joined-on found now (texts_at names items on (number + length now.lists) n es)

pub one_more_extension : (names : Names) (items on : List (List ℕ)) (n : ℕ) (e : DraftExtension) (es : List DraftExtension) (found now : Texts)
    → extension_texts names items on (length found.lists) (inside (nth (codes "extensions") n)) e ≡ Ok now
    → then (texts_at names items on (length found.lists) n (e ∷ es)) (λ more. Ok (texts_with found more))
    ≡ then (texts_at names items on (length (texts_with found now).lists) (n + 1) es) (λ more. Ok (texts_with (texts_with found now) more))
one_more_extension names items on n e es found now is =
    let longer : length found.lists + length now.lists ≡ length (found.lists ++ now.lists) = sym (length-append found.lists now.lists) in
    extension-on names items on (length found.lists) (suc n) es found now (extension_texts names items on (length found.lists) (inside (nth (codes "extensions") n)) e) is
    ∙ ap (λ k. then (texts_at names items on k (suc n) es) (λ more. Ok (texts_with (texts_with found now) more))) longer
    ∙ ap (λ k. then (texts_at names items on (length (found.lists ++ now.lists)) k es) (λ more. Ok (texts_with (texts_with found now) more))) (sym (add-one n))

-- an extension with a fault ends the walk
pub trees-stop : (fault : ProjectFault) (names : Names) (items on : List (List ℕ)) (n : ℕ) (e : DraftExtension) (extensions : List DraftExtension) (found : Texts) (all : Result Texts ProjectFault)
    → n < length extensions → e ≡ get_or extensions n e
    → (◌≡◌ {A = Result Texts ProjectFault} (Err fault) (Err Memory)) ⊎ (Err fault ≡ extension_texts names items on (length found.lists) (inside (nth (codes "extensions") n)) e)
    → all ≡ then (texts_at names items on (length found.lists) n (drop n extensions)) (λ more. Ok (texts_with found more))
    → (◌≡◌ {A = Result Texts ProjectFault} (Err fault) (Err Memory)) ⊎ (Err fault ≡ all)
trees-stop fault names items on n e extensions found all below at is so_far =
    let left : drop n extensions ≡ e ∷ drop (suc n) extensions
    = drop-cons extensions n e below ∙ ap (λ (d : DraftExtension). d ∷ drop (suc n) extensions) (sym at) in
    let here : all ≡ then (texts_at names items on (length found.lists) n (e ∷ drop (suc n) extensions)) (λ more. Ok (texts_with found more))
    = so_far ∙ ap (λ (es : List DraftExtension). then (texts_at names items on (length found.lists) n es) (λ more. Ok (texts_with found more))) left in
    elim is [
      | inl wanted ↦ inl wanted
      | inr read ↦
          inr (sym (here ∙ ap (λ (r : Result Texts ProjectFault). then (then r (λ now. then (texts_at names items on (length found.lists + length now.lists) (suc n) (drop (suc n) extensions)) (λ more. Ok (texts_with now more))))
          (λ more. Ok (texts_with found more))) (sym read)))
    ]

read-extension : (read : Result Texts ProjectFault) (now : Texts) → (◌≡◌ {A = Result Texts ProjectFault} (Ok now) (Err Memory)) ⊎ (Ok now ≡ read) → read ≡ Ok now
read-extension read now is = elim is [ inl wanted ↦ cc | inr found ↦ sym found ]

-- without one it goes on with what was found
pub trees-on : (names : Names) (items on : List (List ℕ)) (n : ℕ) (e : DraftExtension) (extensions : List DraftExtension) (found now more : Texts) (all : Result Texts ProjectFault)
    → n < length extensions → e ≡ get_or extensions n e
    → (◌≡◌ {A = Result Texts ProjectFault} (Ok now) (Err Memory)) ⊎ (Ok now ≡ extension_texts names items on (length found.lists) (inside (nth (codes "extensions") n)) e)
    → more ≡ texts_with found now
    → all ≡ then (texts_at names items on (length found.lists) n (drop n extensions)) (λ rest. Ok (texts_with found rest))
    → all ≡ then (texts_at names items on (length more.lists) (n + 1) (drop (n + 1) extensions)) (λ rest. Ok (texts_with more rest))
trees-on names items on n e extensions found now more all below at is then_now so_far =
    let left : drop n extensions ≡ e ∷ drop (suc n) extensions
    = drop-cons extensions n e below ∙ ap (λ (d : DraftExtension). d ∷ drop (suc n) extensions) (sym at) in
    so_far
    ∙ ap (λ (es : List DraftExtension). then (texts_at names items on (length found.lists) n es) (λ rest. Ok (texts_with found rest))) left
    ∙ one_more_extension names items on n e (drop (suc n) extensions) found now (read-extension (extension_texts names items on (length found.lists) (inside (nth (codes "extensions") n)) e) now is)
    ∙ ap (λ k. then (texts_at names items on (length (texts_with found now).lists) (n + 1) (drop k extensions)) (λ rest. Ok (texts_with (texts_with found now) rest))) (sym (add-one n))
    ∙ ap (λ (t : Texts). then (texts_at names items on (length t.lists) (n + 1) (drop (n + 1) extensions)) (λ rest. Ok (texts_with t rest))) (sym then_now)

-- the recorders that are left are as many fewer as were read
pub few-on : (n : ℕ) (e : DraftExtension) (extensions : List DraftExtension) (found now more : Texts) → n < length extensions → e ≡ get_or extensions n e
    → length now.lists ≡ length e.recorders → more ≡ texts_with found now
    → length found.lists + length (flat_map (λ (d : DraftExtension). d.recorders) (drop n extensions)) ≤ 256
    → length more.lists + length (flat_map (λ (d : DraftExtension). d.recorders) (drop (n + 1) extensions)) ≤ 256
few-on n e extensions found now more below at many then_now few =
    let rest : List DraftExtension = drop (suc n) extensions in
    let left : drop n extensions ≡ e ∷ rest
    = drop-cons extensions n e below ∙ ap (λ (d : DraftExtension). d ∷ drop (suc n) extensions) (sym at) in
    let later : length (flat_map (λ (d : DraftExtension). d.recorders) (drop (n + 1) extensions)) ≡ length (flat_map (λ (d : DraftExtension). d.recorders) rest)
    = ap (λ k. length (flat_map (λ (d : DraftExtension). d.recorders) (drop k extensions))) (add-one n) in
    omega (
      arith,
      few,
      many,
      later,
      ap (λ (es : List DraftExtension). length (flat_map (λ (d : DraftExtension). d.recorders) es)) left,
      length-append e.recorders (flat_map (λ (d : DraftExtension). d.recorders) rest),
      length-append found.lists now.lists,
      ap (λ (t : Texts). length t.lists) then_now,
    )
