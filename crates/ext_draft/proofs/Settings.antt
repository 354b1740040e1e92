-- The keys of `config`, when one more was read.
use Rattle.std.proofs.Common.{◌≡◌, ◌∙◌, ap, sym, refl, arith, append_assoc, ℕ, suc, List, [], ◌∷◌, ◌++◌, length, length-append, Result, Ok, Err}
use Rattle.std.specs.Prelude.{codes}
use Rattle.toml.specs.Data.{Data, Members, member}
use Rattle.ext_draft.specs.FirstWalk.{setting_at, settings_at}
use Rattle.ext_draft.specs.Paths.{nth}
use Rattle.ext_draft.specs.Reading.{then}
use Rattle.ext_draft.specs.declared.draft.Setting.{Setting}
use Rattle.ext_draft.specs.declared.fault.DraftFault.{DraftFault}
use Rattle.ext_draft.proofs.Reading.{after}

after-push : (found : List Setting) (s : Setting) (rest : Result (List Setting) DraftFault)
    → after found (then rest (λ more. Ok (s ∷ more))) ≡ after (found ++ s ∷ []) rest
after-push found s (Ok more) = ap (λ (all : List Setting). Ok all) (sym (append_assoc found (s ∷ []) more))
after-push found s (Err fault) = refl

read-on : (found : List Setting) (s : Setting) (rest : Members) (read : Result Setting DraftFault) → read ≡ Ok s
    → after found (then read (λ x. then (settings_at (suc (length found)) rest) (λ more. Ok (x ∷ more)))) ≡ after (found ++ s ∷ []) (settings_at (suc (length found)) rest)
read-on found s rest read is =
    ap (λ (r : Result Setting DraftFault). after found (then r (λ x. then (settings_at (suc (length found)) rest) (λ more. Ok (x ∷ more))))) is
    ∙ after-push found s (settings_at (suc (length found)) rest)

pub one_more_setting : (found : List Setting) (s : Setting) (key : List ℕ) (value : Data) (rest : Members)
    → setting_at (nth (codes "config") (length found)) key value ≡ Ok s
    → after found (settings_at (length found) (member key value rest)) ≡ after (found ++ s ∷ []) (settings_at (length (found ++ s ∷ [])) rest)
one_more_setting found s key value rest is =
    let longer : suc (length found) ≡ length (found ++ s ∷ []) = omega (arith, length-append found (s ∷ [])) in
    read-on found s rest (setting_at (nth (codes "config") (length found)) key value) is
    ∙ ap (λ n. after (found ++ s ∷ []) (settings_at n rest)) longer
