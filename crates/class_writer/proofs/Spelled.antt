-- The bytes of a valid class spell it.
use Rattle.std.proofs.Common.{◌≡◌, ℕ, List, sym, subst}
use Rattle.std.specs.Prelude.{IfOk, Result, Ok, Err}
use Rattle.class_pool.specs.declared.class.Class.{Class}
use Rattle.class_grammar.specs.Grammar.{Spells}
use Rattle.class_grammar.specs.Bytes.{class_bytes}
use Rattle.class_grammar.specs.Valid.{IsValid}
use Rattle.class_valid.proofs.CallerLemmas.{valid_spelled}

pub spelled_by : {X : Type 0} (c : Class) (r : Result (List ℕ) X) → IsValid c → IfOk r (λ b. b ≡ class_bytes c) → IfOk r (λ b. Spells b c)
spelled_by c (Ok b) valid e = subst (λ w. Spells w c) (sym e) (valid_spelled c valid)
spelled_by c (Err x) valid e = tt
