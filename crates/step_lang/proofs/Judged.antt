-- The answer for a text is the tree of a sentence whose names are right, or the first fault.
use Rattle.std.proofs.Common.{◌≡◌, ℕ, Bool, List, Result, Ok, Err, refl, sym, ap, subst, ◌∙◌, ◌⊎◌, inl, inr}
use Rattle.std.specs.Prelude.{IfOk, ◌≢◌}
use Rattle.item_types.specs.declared.decl.Names.{Names}
use Rattle.syntax_tree.specs.declared.tree.Stmt.{Stmt}
use Rattle.lang_grammar.specs.declared.fault.LangFault.{LangFault}
use Rattle.lang_grammar.specs.declared.fault.LangFault.TheVariants.{Token as NoToken, TooDeep, Syntax, Unknown, Undeclared, Memory}
use Rattle.lang_grammar.specs.Text.{IsText, TextStuck, Told, of_text}
use Rattle.lang_grammar.proofs.CallerLemmas.{text_reads, text_stuck, is_text, is_stuck}
use Rattle.lang_names.specs.Checked.{Checked, right}
use Rattle.lang_names.specs.Stmts.{Rights}
use Rattle.lang_names.specs.declared.wrong.NameFault.{NameFault}
use Rattle.lang_names.specs.declared.wrong.NameFault.TheVariants as faults
use Rattle.lang_names.specs.declared.wrong.Wrong.TheVariants as wrong
use Rattle.step_lang.specs.Language.{IsRight, FirstFault, stuck, unknown, undeclared}
use Rattle.step_lang.specs.Judge.{told, by_check, judged, answer, Judges}

-- ---- what is read, from the clauses of the reader

by_clauses : (step : Bool) (names : Names) (text : List ℕ) (r : Result (List Stmt) LangFault) (o : Result (List Stmt) LangFault) → of_text step names text ≡ o
    → ((c : List Stmt) → IsText step names c text → Told (Ok c) r) → ((f : LangFault) → TextStuck step names text f → Told (Err f) r) → Told o r
by_clauses step names text r (Ok c) e only first = only c (is_text step names text c e)
by_clauses step names text r (Err f) e only first = first f (is_stuck step names text f e)

pub told_text : (step : Bool) (names : Names) (text : List ℕ) (r : Result (List Stmt) LangFault)
    → ((c : List Stmt) → IsText step names c text → Told (Ok c) r) → ((f : LangFault) → TextStuck step names text f → Told (Err f) r) → Told (of_text step names text) r
told_text step names text r only first = by_clauses step names text r (of_text step names text) refl only first

module _ {A : Type 0} (make : List Stmt → A) where
  -- ---- the test

  pub judges_ok : (c : List Stmt) → Judges make c (Ok tt) (Ok (make c))
  judges_ok c k e = ap (by_check make c) e

  pub judges_err : (c : List Stmt) (f : NameFault) → Judges make c (Err f) (Err (told f))
  judges_err c faults.Memory k e = tt
  judges_err c (faults.Wrong (wrong.Unknown at)) k e = ap (by_check make c) e
  judges_err c (faults.Wrong (wrong.Undeclared at)) k e = ap (by_check make c) e

  module _ (step : Bool) (names : Names) (check : List Stmt → Checked) (text : List ℕ) where
    pub read_err : (f : LangFault) → Told (of_text step names text) (Err f) → Told (answer make step names check text) (Err f)
    unfolding answer
    read_err Memory h = tt
    read_err (NoToken at) h = ap (judged make check) h
    read_err (TooDeep at) h = ap (judged make check) h
    read_err (Syntax at) h = ap (judged make check) h
    read_err (Unknown at) h = ap (judged make check) h
    read_err (Undeclared at) h = ap (judged make check) h

    pub read_ok : (c : List Stmt) (checked : Result (Unit {0}) NameFault) (r : Result A LangFault) → Told (of_text step names text) (Ok c) → Rights (check c) checked → Judges make c checked r
        → Told (answer make step names check text) r
    unfolding answer
    read_ok c checked r h rights judges = subst (λ (o : Result (List Stmt) LangFault). Told (judged make check o) r) (sym h) (judges (check c) rights)

-- ---- the four clauses, for trees that are made of their statements and give them back

module _ {A : Type 0} (make : List Stmt → A) (of : A → List Stmt) (given : (c : List Stmt) → of (make c) ≡ c) (made : (a : A) → make (of a) ≡ a) (step : Bool) (names : Names) (check : List Stmt → Checked) (text : List ℕ) where
  ok_by : (c : List Stmt) (k : Checked) (a : A) → by_check make c k ≡ Ok a → (k ≡ right) × (make c ≡ a)
  ok_by c (Ok x) a e = (refl, cc)
  ok_by c (Err (wrong.Unknown at)) a e = absurd cc
  ok_by c (Err (wrong.Undeclared at)) a e = absurd cc

  ok_of : (o : Result (List Stmt) LangFault) (a : A) → of_text step names text ≡ o → judged make check o ≡ Ok a → IsRight step names check (of a) text
  ok_of (Ok c) a e h =
      let k = ok_by c (check c) a h in
      subst (λ (d : List Stmt). IsRight step names check d text) (sym (given c) ∙ ap of k.1) (record { sentence = is_text step names text c e; named = k.0 })
  ok_of (Err f) a e h = absurd cc

  err_by : (c : List Stmt) (k : Checked) (f : LangFault) → of_text step names text ≡ Ok c → check c ≡ k → by_check make c k ≡ Err f → FirstFault step names check text f
  err_by c (Ok x) f e q h = absurd cc
  err_by c (Err (wrong.Unknown at)) f e q h = let g : Unknown at ≡ f = cc in subst (λ (w : LangFault). FirstFault step names check text w) g (unknown c at (is_text step names text c e) q)
  err_by c (Err (wrong.Undeclared at)) f e q h = let g : Undeclared at ≡ f = cc in subst (λ (w : LangFault). FirstFault step names check text w) g (undeclared c at (is_text step names text c e) q)

  err_of : (o : Result (List Stmt) LangFault) (f : LangFault) → of_text step names text ≡ o → judged make check o ≡ Err f → FirstFault step names check text f
  err_of (Ok c) f e h = err_by c (check c) f e refl h
  err_of (Err g) f e h = let same : g ≡ f = cc in stuck f (is_stuck step names text f (e ∙ ap Err same))

  pub answer_ok : (a : A) → IsRight step names check (of a) text → answer make step names check text ≡ Ok a
  unfolding answer
  answer_ok a h = ap (judged make check) (text_reads step names text (of a) h.sentence) ∙ ap (by_check make (of a)) h.named ∙ ap Ok (made a)

  pub answer_err : (f : LangFault) → FirstFault step names check text f → answer make step names check text ≡ Err f
  unfolding answer
  answer_err f (stuck f' h) = ap (judged make check) (text_stuck step names text f' h)
  answer_err f (unknown c at h e) = ap (judged make check) (text_reads step names text c h) ∙ ap (by_check make c) e
  answer_err f (undeclared c at h e) = ap (judged make check) (text_reads step names text c h) ∙ ap (by_check make c) e

  pub ok_answer : (a : A) → answer make step names check text ≡ Ok a → IsRight step names check (of a) text
  unfolding answer
  ok_answer a h = ok_of (of_text step names text) a refl h

  pub err_answer : (f : LangFault) → answer make step names check text ≡ Err f → FirstFault step names check text f
  unfolding answer
  err_answer f h = err_of (of_text step names text) f refl h

  ok_told : (r : Result A LangFault) → Told (answer make step names check text) r → IfOk r (λ a. IsRight step names check (of a) text)
  unfolding answer
  ok_told (Ok a) h = ok_of (of_text step names text) a refl h
  ok_told (Err f) h = tt

  err_told : (f : LangFault) → Told (answer make step names check text) (Err f) → f ≢ Memory → FirstFault step names check text f
  unfolding answer
  err_told Memory h some = absurd (some refl)
  err_told (NoToken at) h some = err_of (of_text step names text) (NoToken at) refl h
  err_told (TooDeep at) h some = err_of (of_text step names text) (TooDeep at) refl h
  err_told (Syntax at) h some = err_of (of_text step names text) (Syntax at) refl h
  err_told (Unknown at) h some = err_of (of_text step names text) (Unknown at) refl h
  err_told (Undeclared at) h some = err_of (of_text step names text) (Undeclared at) refl h

  module _ (r : Result A LangFault) (h : Told (answer make step names check text) r) where
    pub sentence : IfOk r (λ a. IsRight step names check (of a) text)
    sentence = ok_told r h

    pub only : (a : A) → IsRight step names check (of a) text → Told (Ok a) r
    only a is = subst (λ (o : Result A LangFault). Told o r) (answer_ok a is) h

    pub fault : (f : LangFault) → r ≡ Err f → f ≢ Memory → FirstFault step names check text f
    fault f e some = err_told f (subst (λ (w : Result A LangFault). Told (answer make step names check text) w) e h) some

    pub first : (f : LangFault) → FirstFault step names check text f → Told (Err f) r
    first f is = subst (λ (o : Result A LangFault). Told o r) (answer_err f is) h

  -- ---- one answer

  either_by : (o : Result A LangFault) → answer make step names check text ≡ o → ((a : A) × IsRight step names check (of a) text) ⊎ ((f : LangFault) × FirstFault step names check text f)
  unfolding answer
  either_by (Ok a) h = inl (a, ok_of (of_text step names text) a refl h)
  either_by (Err f) h = inr (f, err_of (of_text step names text) f refl h)

  pub either : ((a : A) × IsRight step names check (of a) text) ⊎ ((f : LangFault) × FirstFault step names check text f)
  either = either_by (answer make step names check text) refl

  pub not_both : (a : A) (f : LangFault) → IsRight step names check (of a) text → FirstFault step names check text f → ⊥
  not_both a f p q = let e = sym (answer_ok a p) ∙ answer_err f q in cc

  pub one_tree : (a b : A) → IsRight step names check (of a) text → IsRight step names check (of b) text → a ≡ b
  one_tree a b p q = let e = sym (answer_ok a p) ∙ answer_ok b q in cc

  pub one_fault : (f g : LangFault) → FirstFault step names check text f → FirstFault step names check text g → f ≡ g
  one_fault f g p q = let e = sym (answer_err f p) ∙ answer_err g q in cc
