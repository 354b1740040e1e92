-- A body is stuck for its tokens up to the one where it is stuck.
use Rattle.std.proofs.Common.{◌≡◌, ℕ, ◌<◌, Bool, List, [], ◌∷◌, ◌++◌, length, refl, sym, ap, subst, ◌∙◌, arith, inl, inr}
use Rattle.std.proofs.lemmas.List.{take_at, drop_at}
use Rattle.std.specs.Prelude.{take, drop}
use Rattle.lang_lexer.specs.declared.token.Token.{Token}
use Rattle.syntax_tree.specs.declared.tree.Stmt.{Stmt}
use Rattle.item_types.specs.declared.decl.Names.{Names}
use Rattle.lang_grammar.specs.declared.fault.Fault.{Fault}
use Rattle.lang_grammar.specs.Place.{Place, place, first_of, refusal}
use Rattle.lang_grammar.specs.Table.{body}
use Rattle.lang_grammar.specs.Sentence.{IsBody, StuckBody}
use Rattle.lang_grammar.proofs.Whole.{not_both}
use Rattle.lang_grammar.specs.Sentence.{token_of}
use Rattle.lang_grammar.proofs.Local.{Span, Halt, token_refusal, refusal_same}
use Rattle.lang_grammar.proofs.LocalStated.{local_body}

some_first : (vs ws : List Token) → 0 < length vs → first_of ws ≡ first_of vs → 0 < length ws
some_first [] ws some e = absurd (omega (arith, some))
some_first (v ∷ vs) [] some e = absurd cc
some_first (v ∷ vs) (w ∷ ws) some e = omega arith

module _ (step : Bool) (names : Names) (n : ℕ) where
  -- the same of a whole body
  record Ends (xs : List Token) (f : Fault) : Type 0 where
    us : List Token
    vs : List Token
    parts : xs ≡ us ++ vs
    at : token_of f ≡ length us
    again : (ws : List Token) → first_of ws ≡ first_of vs → StuckBody step names n (us ++ ws) f

  inside : (xs : List Token) (f : Fault) → Halt (body step names n) (place 0 xs) f → Ends xs f
  inside xs f h = record { us = h.us; vs = h.vs; parts = h.parts; at = omega (arith, h.at); again = λ ws e. inl (h.again ws e) }

  behind : (xs : List Token) (f : Fault) (c : List Stmt) (q : Place) → Span (body step names n) (place 0 xs) c q → 0 < length q.rest → f ≡ refusal n q → Ends xs f
  behind xs f c q s some e = record {
    us = s.us;
    vs = q.rest;
    parts = s.parts;
    at = (let g : token_of f ≡ q.at = ap token_of e ∙ token_refusal n q in omega (arith, g, s.at));
    again = λ ws g. inr (c, place q.at ws, s.again ws g, some_first q.rest ws some g, e ∙ refusal_same n q.at q.rest ws g);
  }

  ends : (xs : List Token) (f : Fault) → StuckBody step names n xs f → Ends xs f
  ends xs f (inl h) = inside xs f ((local_body step names n).halts (place 0 xs) f h)
  ends xs f (inr h) = behind xs f h.0 h.1 ((local_body step names n).spans (place 0 xs) h.0 h.1 h.2) h.3 h.4

  pub within : (xs : List Token) (f : Fault) → StuckBody step names n xs f → (us : List Token) × (vs : List Token) × (xs ≡ us ++ vs) × (token_of f ≡ length us)
  within xs f h = let e : Ends xs f = ends xs f h in (e.us, e.vs, e.parts, e.at)

  alone_by : (us vs ws : List Token) (f : Fault) → Ends (us ++ vs) f → token_of f ≡ length us → first_of ws ≡ first_of vs → StuckBody step names n (us ++ ws) f
  alone_by us vs ws f e at g =
      let l : length us ≡ length e.us = sym at ∙ e.at in
      let u : us ≡ e.us = sym (take_at us vs (length e.us) l) ∙ ap (take (length e.us)) e.parts ∙ take_at e.us e.vs (length e.us) refl in
      let v : vs ≡ e.vs = sym (drop_at us vs (length e.us) l) ∙ ap (drop (length e.us)) e.parts ∙ drop_at e.us e.vs (length e.us) refl in
      subst (λ w. StuckBody step names n (w ++ ws) f) (sym u) (e.again ws (g ∙ ap first_of v))

  pub alone : (us vs ws : List Token) (f : Fault) → StuckBody step names n (us ++ vs) f → token_of f ≡ length us → first_of ws ≡ first_of vs → StuckBody step names n (us ++ ws) f
  alone us vs ws f h at g = alone_by us vs ws f (ends (us ++ vs) f h) at g

  pub no_sentence : (us vs ws : List Token) (t : Token) (f : Fault) (c : List Stmt) → StuckBody step names n (us ++ t ∷ vs) f → token_of f ≡ length us → IsBody step names n c (us ++ t ∷ ws) → ⊥
  no_sentence us vs ws t f c h at is = not_both step names n (us ++ t ∷ ws) c f is (alone us (t ∷ vs) (t ∷ ws) f h at refl)
