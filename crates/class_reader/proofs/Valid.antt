-- A class that was read is valid.
use Rattle.std.proofs.Common.{ℕ, List}
use Rattle.std.specs.Prelude.{IfOk, Result, Ok, Err}
use Rattle.class_pool.specs.declared.class.Class.{Class}
use Rattle.class_grammar.specs.Grammar.{Spells}
use Rattle.class_grammar.specs.Valid.{IsValid}
use Rattle.class_valid.proofs.CallerLemmas.{valid_only}

pub valid_by : {X : Type 0} (bytes : List ℕ) (r : Result Class X) → IfOk r (λ c. Spells bytes c) → IfOk r (λ c. IsValid c)
valid_by bytes (Ok c) h = valid_only c bytes h
valid_by bytes (Err x) h = tt
