-- Values under names, the newest last. This project's own.
use Rattle.std.specs.Prelude.{ℕ, cond, List, [], ◌∷◌, map, Option, Some, None, unwrap_or}
use Rattle.std.specs.Str.{bytes_eq}

-- the first option, where it is a value, else the second one
abbrev pub or_else : {A : Type 0} → Option A → Option A → Option A
or_else None o = o
or_else (Some v) o = Some v

-- the value of the last entry of that name
abbrev pub found : {A : Type 0} → List (List ℕ × A) → List ℕ → Option A
found [] name = None
found (e ∷ es) name = or_else (found es name) (cond (bytes_eq e.0 name) (Some e.1) None)

-- the values in the declared order of their fields; a field that wasn't written is null
abbrev pub arranged : {A : Type 0} → A → List (List ℕ) → List (List ℕ × A) → List A
arranged null fields written = map (λ f. unwrap_or (found written f) null) fields
