-- The answer for a text.
use Rattle.std.proofs.Common.{◌≡◌, ℕ, Bool, true, false, List, length, Result, Ok, Err, refl, sym, ap, subst, ◌∙◌, ◌⊎◌, inl, inr}
use Rattle.std.specs.Prelude.{IfOk, ◌≢◌}
use Rattle.std.specs.Str.{chars}
use Rattle.lang_lexer.specs.declared.token.Token.{Token}
use Rattle.lang_lexer.specs.Tokens.{tokens}
use Rattle.syntax_tree.specs.declared.tree.Stmt.{Stmt}
use Rattle.item_types.specs.declared.decl.Names.{Names}
use Rattle.lang_grammar.specs.declared.fault.Fault.{Fault}
use Rattle.lang_grammar.specs.declared.fault.LangFault.{LangFault}
use Rattle.lang_grammar.specs.declared.fault.LangFault.TheVariants.{Token as NoToken, TooDeep, Syntax, Unknown, Undeclared, Memory}
use Rattle.lang_grammar.specs.Rules.{limit}
use Rattle.lang_grammar.specs.Text.{IsText, TextStuck, inside, behind, Told, of_body, of_tokens, of_text, whole_of}
use Rattle.lang_grammar.proofs.Whole.{WholeSays, whole_says, whole_reads, whole_stuck}

module _ (step : Bool) (names : Names) (text : List ℕ) where
  abbrev TextSays : Result (List Stmt) LangFault → Type 0
  TextSays (Ok c) = IsText step names c text
  TextSays (Err f) = TextStuck step names text f

  of_body_says : (xs : List Token) (b : Bool) → tokens (chars text) ≡ (xs, b) → (o : Result (List Stmt) Fault) → WholeSays step names limit xs o → TextSays (of_body step names (length xs) b o)
  of_body_says xs true e (Ok c) says = record { xs = xs; all = e; body = says }
  of_body_says xs false e (Ok c) says = behind xs c e says
  of_body_says xs b e (Err g) says = inside xs b g e says

  text_says : TextSays (of_text step names text)
  text_says = of_body_says (tokens (chars text)).0 (tokens (chars text)).1 refl (whole_of step names (tokens (chars text)).0) (whole_says step names limit (tokens (chars text)).0)

  pub text_reads : (c : List Stmt) → IsText step names c text → of_text step names text ≡ Ok c
  text_reads c h = ap (of_tokens step names) h.all ∙ ap (of_body step names (length h.xs) true) (whole_reads step names limit h.xs c h.body)

  pub text_stuck : (f : LangFault) → TextStuck step names text f → of_text step names text ≡ Err f
  text_stuck f (inside xs whole g e st) = ap (of_tokens step names) e ∙ ap (of_body step names (length xs) whole) (whole_stuck step names limit xs g st)
  text_stuck f (behind xs c e h) = ap (of_tokens step names) e ∙ ap (of_body step names (length xs) false) (whole_reads step names limit xs c h)

  pub is_text : (c : List Stmt) → of_text step names text ≡ Ok c → IsText step names c text
  is_text c h = subst (λ (o : Result (List Stmt) LangFault). TextSays o) h text_says

  pub is_stuck : (f : LangFault) → of_text step names text ≡ Err f → TextStuck step names text f
  is_stuck f h = subst (λ (o : Result (List Stmt) LangFault). TextSays o) h text_says

  told_ok : (r : Result (List Stmt) LangFault) → Told (of_text step names text) r → IfOk r (λ c. IsText step names c text)
  told_ok (Ok c) h = is_text c h
  told_ok (Err f) h = tt

  told_err : (f : LangFault) → Told (of_text step names text) (Err f) → f ≢ Memory → TextStuck step names text f
  told_err Memory h some = absurd (some refl)
  told_err (NoToken at) h some = is_stuck (NoToken at) h
  told_err (TooDeep at) h some = is_stuck (TooDeep at) h
  told_err (Syntax at) h some = is_stuck (Syntax at) h
  told_err (Unknown at) h some = is_stuck (Unknown at) h
  told_err (Undeclared at) h some = is_stuck (Undeclared at) h

  module _ (r : Result (List Stmt) LangFault) (told : Told (of_text step names text) r) where
    pub sentence : IfOk r (λ c. IsText step names c text)
    sentence = told_ok r told

    pub only : (c : List Stmt) → IsText step names c text → Told (Ok c) r
    only c h = subst (λ (o : Result (List Stmt) LangFault). Told o r) (text_reads c h) told

    pub stuck : (f : LangFault) → r ≡ Err f → f ≢ Memory → TextStuck step names text f
    stuck f e some = told_err f (subst (λ (w : Result (List Stmt) LangFault). Told (of_text step names text) w) e told) some

    pub first : (f : LangFault) → TextStuck step names text f → Told (Err f) r
    first f h = subst (λ (o : Result (List Stmt) LangFault). Told o r) (text_stuck f h) told

  one_or : (o : Result (List Stmt) LangFault) → TextSays o → ((c : List Stmt) × IsText step names c text) ⊎ ((f : LangFault) × TextStuck step names text f)
  one_or (Ok c) says = inl (c, says)
  one_or (Err f) says = inr (f, says)

  pub either : ((c : List Stmt) × IsText step names c text) ⊎ ((f : LangFault) × TextStuck step names text f)
  either = one_or (of_text step names text) text_says

  pub not_both : (c : List Stmt) (f : LangFault) → IsText step names c text → TextStuck step names text f → ⊥
  not_both c f a b = let e = sym (text_reads c a) ∙ text_stuck f b in cc

  pub one_tree : (c d : List Stmt) → IsText step names c text → IsText step names d text → c ≡ d
  one_tree c d a b = let e = sym (text_reads c a) ∙ text_reads d b in cc

  pub one_fault : (f g : LangFault) → TextStuck step names text f → TextStuck step names text g → f ≡ g
  one_fault f g a b = let e = sym (text_stuck f a) ∙ text_stuck g b in cc
