-- The texts of statics, by two lists.
use Rattle.std.proofs.Common.{◌≡◌, ℕ, List, [], ◌∷◌, ◌++◌, refl}
use Rattle.item_types.specs.declared.decl.RecorderDecl.{RecorderDecl}
use Rattle.startup_rules.specs.declared.slot.Slot.{Slot}
use Rattle.world_text.specs.WorldText.{static_text, statics_text, recorders_text}

pub statics_next : (order recorder : List ℕ) (f : List ℕ) (fs : List (List ℕ)) (v : Slot) (vs : List Slot) →
    statics_text order recorder (f ∷ fs) (v ∷ vs) ≡ static_text order recorder f v ++ statics_text order recorder fs vs
statics_next order recorder f fs v vs = refl

pub statics_short : (order recorder : List ℕ) (fs : List (List ℕ)) → statics_text order recorder fs [] ≡ []
statics_short order recorder [] = refl
statics_short order recorder (f ∷ fs) = refl

pub recorders_next : (order : List ℕ) (d : RecorderDecl) (ds : List RecorderDecl) (row : List Slot) (rows : List (List Slot)) →
    recorders_text order (d ∷ ds) (row ∷ rows) ≡ statics_text order d.name d.statics row ++ recorders_text order ds rows
recorders_next order d ds row rows = refl

pub recorders_short : (order : List ℕ) (ds : List RecorderDecl) → recorders_text order ds [] ≡ []
recorders_short order [] = refl
recorders_short order (d ∷ ds) = refl
