-- Tokens are a body, or stuck at one of them, and never both.
use Rattle.std.proofs.Common.{◌≡◌, ℕ, ◌<◌, Bool, List, [], ◌∷◌, ◌++◌, length, Result, Ok, Err, refl, sym, ap, subst, ◌∙◌, ◌⊎◌, inl, inr, arith}
use Rattle.std.proofs.lemmas.List.{append-nil}
use Rattle.lang_lexer.specs.declared.token.Token.{Token}
use Rattle.syntax_tree.specs.declared.tree.Stmt.{Stmt}
use Rattle.item_types.specs.declared.decl.Names.{Names}
use Rattle.lang_grammar.specs.declared.fault.Fault.{Fault}
use Rattle.lang_grammar.specs.Place.{Place, place, Outcome, first, first_of, refusal}
use Rattle.lang_grammar.specs.Rules as rules
use Rattle.lang_grammar.specs.Table.{body}
use Rattle.lang_grammar.specs.Sentence.{IsBody, StuckBody}
use Rattle.lang_grammar.proofs.Right.{Says, Found}
use Rattle.lang_grammar.proofs.Stated.{right_body}

module _ (step : Bool) (names : Names) (n : ℕ) (tokens : List Token) where
  abbrev pub WholeSays : Result (List Stmt) Fault → Type 0
  WholeSays (Ok c) = IsBody step names n c tokens
  WholeSays (Err f) = StuckBody step names n tokens f

  all_of : (xs ys : List Token) → tokens ≡ xs ++ ys → ys ≡ [] → tokens ≡ xs
  all_of xs ys e h = e ∙ ap (λ w. xs ++ w) h ∙ append-nil xs

  ended_says : (c : List Stmt) (k : ℕ) (ts : List Token) → Found (body step names n) (place 0 tokens) c (place k ts) → WholeSays (rules.all_read step names n c (place k ts) (first_of ts))
  ended_says c k [] h = subst (λ w. (body step names n).Is 0 c w) (sym (all_of h.tokens [] h.lies.parts refl)) h.is
  ended_says c k (t ∷ ts) h = inr (c, place k (t ∷ ts), h.reads, omega arith, refl)

  whole_by : (o : Outcome (List Stmt)) → Says (body step names n) (place 0 tokens) o → WholeSays (rules.ended step names n o)
  whole_by (Ok r) h = ended_says r.0 r.1.at r.1.rest h
  whole_by (Err f) h = inl h

  pub whole_says : WholeSays (rules.whole step names n tokens)
  unfolding rules.whole
  whole_says = whole_by (rules.body step names n (place 0 tokens)) ((right_body step names n).says (place 0 tokens))

  ended_is : (o p : Outcome (List Stmt)) → o ≡ p → rules.ended step names n o ≡ rules.ended step names n p
  ended_is o p e = ap (rules.ended step names n) e

  pub whole_reads : (c : List Stmt) → IsBody step names n c tokens → rules.whole step names n tokens ≡ Ok c
  unfolding rules.whole
  whole_reads c h =
      ap (λ w. rules.ended step names n (rules.body step names n (place 0 w))) (sym (append-nil tokens))
      ∙ ap (rules.ended step names n) ((right_body step names n).whole 0 c tokens [] h refl)

  behind : (c : List Stmt) (q : Place) (f : Fault) → (ts : List Token) → q.rest ≡ ts → 0 < length ts → f ≡ refusal n q → rules.all_read step names n c q (first q) ≡ Err f
  behind c q f [] e some h = absurd (omega arith)
  behind c q f (t ∷ ts) e some h = ap (λ w. rules.all_read step names n c q (first_of w)) e ∙ ap (λ (g : Fault). Err g) (sym h)

  pub whole_stuck : (f : Fault) → StuckBody step names n tokens f → rules.whole step names n tokens ≡ Err f
  unfolding rules.whole
  whole_stuck f (inl h) = ap (rules.ended step names n) ((right_body step names n).stuck (place 0 tokens) f h)
  whole_stuck f (inr h) = ap (rules.ended step names n) ((right_body step names n).reads (place 0 tokens) h.0 h.1 h.2) ∙ behind h.0 h.1 f h.1.rest refl h.3 h.4

  pub is_body : (c : List Stmt) → rules.whole step names n tokens ≡ Ok c → IsBody step names n c tokens
  is_body c e = subst (λ o. WholeSays o) e whole_says

  pub is_stuck : (f : Fault) → rules.whole step names n tokens ≡ Err f → StuckBody step names n tokens f
  is_stuck f e = subst (λ o. WholeSays o) e whole_says

  one_or : (o : Result (List Stmt) Fault) → WholeSays o → ((c : List Stmt) × IsBody step names n c tokens) ⊎ ((f : Fault) × StuckBody step names n tokens f)
  one_or (Ok c) says = inl (c, says)
  one_or (Err f) says = inr (f, says)

  pub either : ((c : List Stmt) × IsBody step names n c tokens) ⊎ ((f : Fault) × StuckBody step names n tokens f)
  either = one_or (rules.whole step names n tokens) whole_says

  pub one_tree : (c d : List Stmt) → IsBody step names n c tokens → IsBody step names n d tokens → c ≡ d
  one_tree c d a b = let e = sym (whole_reads c a) ∙ whole_reads d b in cc

  pub one_fault : (f g : Fault) → StuckBody step names n tokens f → StuckBody step names n tokens g → f ≡ g
  one_fault f g a b = let e = sym (whole_stuck f a) ∙ whole_stuck g b in cc

  pub not_both : (c : List Stmt) (f : Fault) → IsBody step names n c tokens → StuckBody step names n tokens f → ⊥
  not_both c f a b = let e = sym (whole_reads c a) ∙ whole_stuck f b in cc
