-- The keys that are true, when one more comes.
use Rattle.std.proofs.Common.{◌≡◌, refl, Bool, true, false, cond, List, ℕ, [], ◌∷◌, ◌++◌}
use Rattle.ext_draft.specs.declared.draft.Setting.{Setting}
use Rattle.ext_parser.specs.Declarations.{keys_on}

cons-by : (on : Bool) (name : List ℕ) (rest : List (List ℕ)) → cond on (name ∷ rest) rest ≡ cond on (name ∷ []) [] ++ rest
cons-by true name rest = refl
cons-by false name rest = refl

pub keys_on_cons : (s : Setting) (settings : List Setting) → keys_on (s ∷ settings) ≡ keys_on (s ∷ []) ++ keys_on settings
keys_on_cons s settings = cons-by s.on s.name (keys_on settings)
