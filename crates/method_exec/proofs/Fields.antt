-- Operations on fields and statics that end early.
use Rattle.std.proofs.Common.{◌≡◌, ℕ, zero, suc, List, [], ◌∷◌, Option, Some, None, Ok, Err, Result, refl, sym, ap, subst, ◌∙◌}
use Rattle.std.specs.Prelude.{slice_get, slice_index_or, unwrap_or}
use Rattle.item_types.specs.Named.{static_place}
use Rattle.item_types.specs.declared.decl.Names.{Names}
use Rattle.startup_rules.specs.Worlds.{World, parts, field_set}
use Rattle.startup_rules.specs.declared.slot.Slot.{Slot}
use Rattle.startup_rules.specs.declared.slot.Slot.TheVariants.{Null}
use Rattle.startup_rules.specs.declared.slot.Object.{Object}
use Rattle.startup_rules.specs.declared.fault.Invoked.{Invoked}
use Rattle.startup_rules.specs.declared.fault.Invoked.TheVariants.{Failed}
use Rattle.startup_rules.specs.declared.fault.MethodFault.{MethodFault}
use Rattle.startup_rules.specs.declared.op.Op.{Op}
use Rattle.startup_rules.specs.declared.op.Op.TheVariants as operation
use Rattle.startup_rules.specs.Operations.{Within, Checked, effect, answer, then_ok, there, object_of, field_place, field, read, write, number, static_at, statics_in}
use Rattle.startup_rules.specs.Acting.{op, settled, Ends}
use Rattle.method_exec.specs.Walking.{Does, Gives}
use Rattle.method_exec.specs.declared.stop.Stop.{Stop}

-- what a field is where its object is there and has none of that name
no_field : (names : Names) (at : ℕ) (f : List ℕ) (v : Slot) (w : World) (x : Object) (e : MethodFault) → Some x ≡ object_of w v → field_place names at f x ≡ Err e → field names at f v w ≡ Err e
no_field names at f v w x e is fails =
    ap (λ (o : Option Object). then_ok (there at o) (λ x. then_ok (field_place names at f x) (λ k. Ok (x, k)))) (sym is)
    ∙ ap (λ (r : Checked ℕ). then_ok r (λ k. Ok (x, k))) fails

pub field_of_fails : (cx : Within) (v : Slot) (f : List ℕ) (at : ℕ) (w : World) (x : Object) (e : Stop) (names : Names) (g : List ℕ) → Some x ≡ object_of w v → names ≡ cx.names → g ≡ f →
    Gives {A = ℕ} (field_place names at g x) (Err e) → Does {A = Slot} (op cx (operation.FieldOf v f at) w) (Err e) w
unfolding effect
field_of_fails cx v f at w x e names g is same_names same_field gives = λ y ends.
    let h = gives y ends in
    let fails : field_place cx.names at f x ≡ Err h.0 = subst (λ (n : Names). field_place n at f x ≡ Err h.0) same_names (subst (λ (t : List ℕ). field_place names at t x ≡ Err h.0) same_field h.2) in
    ap (λ (r : Checked (Object × ℕ)). settled w (answer (then_ok r (λ r. Ok (slice_index_or (parts r.0) r.1 Null))) w)) (no_field cx.names at f v w x h.0 is fails)
    ∙ ap (λ (z : Invoked). (Err z, w)) (sym h.1)

pub set_fails : (cx : Within) (o v : Slot) (f : List ℕ) (at : ℕ) (w : World) (x : Object) (e : Stop) (names : Names) (g : List ℕ) → Some x ≡ object_of w o → names ≡ cx.names → g ≡ f →
    Gives {A = ℕ} (field_place names at g x) (Err e) → Does {A = Slot} (op cx (operation.Set o v f at) w) (Err e) w
unfolding effect
set_fails cx o v f at w x e names g is same_names same_field gives = λ y ends.
    let h = gives y ends in
    let fails : field_place cx.names at f x ≡ Err h.0 = subst (λ (n : Names). field_place n at f x ≡ Err h.0) same_names (subst (λ (t : List ℕ). field_place names at t x ≡ Err h.0) same_field h.2) in
    ap (λ (r : Checked (Object × ℕ)). settled w (then_ok r (λ r. Ok (Null, field_set (number o) r.1 v w)))) (no_field cx.names at f o w x h.0 is fails)
    ∙ ap (λ (z : Invoked). (Err z, w)) (sym h.1)

missing : (l : List Slot) (k : ℕ) → slice_get l k ≡ None → slice_index_or l k Null ≡ Null
missing [] k h = refl
missing (x ∷ l) zero h = absurd (cc)
missing (x ∷ l) (suc k) h = missing l k h

static_is_missing : (cx : Within) (f : List ℕ) (w : World) (k : ℕ) → static_place cx.names cx.recorder f ≡ Some k → slice_get (statics_in cx w) k ≡ None → op cx (operation.GetStatic f) w ≡ (Ok Null, w)
unfolding effect
static_is_missing cx f w k is none = ap (λ (o : Option ℕ). (Ok (static_at (statics_in cx w) o), w)) is ∙ ap (λ (v : Slot). (Ok v, w)) (missing (statics_in cx w) k none)

pub static_missing : (cx : Within) (f : List ℕ) (w : World) (k : ℕ) (names : Names) (recorder again : ℕ) (g : List ℕ) → Some k ≡ static_place names recorder g → names ≡ cx.names → recorder ≡ cx.recorder → g ≡ f →
    None ≡ slice_get (unwrap_or (slice_get w.statics again) []) k → again ≡ cx.recorder → op cx (operation.GetStatic f) w ≡ (Ok Null, w)
static_missing cx f w k names recorder again g is same_names same_recorder same_field none same_again =
    static_is_missing cx f w k
    (sym (subst (λ (n : Names). Some k ≡ static_place n cx.recorder f) same_names (subst (λ (r : ℕ). Some k ≡ static_place names r f) same_recorder (subst (λ (t : List ℕ). Some k ≡ static_place names recorder t) same_field is))))
    (sym (subst (λ (r : ℕ). None ≡ slice_get (unwrap_or (slice_get w.statics r) []) k) same_again none))
