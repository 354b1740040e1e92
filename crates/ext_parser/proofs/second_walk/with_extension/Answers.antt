use Rattle.std.proofs.Common.{◌≡◌, ◌∙◌, inr, ap, sym, arith, codes, List, ℕ, [], ◌∷◌, ◌++◌, Ok}
use Rattle.item_types.specs.declared.decl.BeanDecl.{BeanDecl}
use Rattle.item_types.specs.declared.decl.ItemDecl.{ItemDecl}
use Rattle.ext_draft.specs.declared.draft.DraftExtension.{DraftExtension}
use Rattle.ext_draft.specs.declared.draft.DraftRecorder.{DraftRecorder}
use Rattle.ext_draft.specs.declared.draft.DraftStep.{DraftStep}
use Rattle.ext_parser.specs.SecondWalk.{Checked, fresh, row, item_right, bean_right, recorder_right, step_right, extension_right, names_with}
use Rattle.ext_parser.specs.declared.known.Known.{Known}
use Rattle.ext_parser.specs.declared.second_walk.Before.{Before}
use Rattle.ext_parser.proofs.Rows.{given, refused, refused-checked, was-right, third-fails, fourth-fails, fifth-fails, all-right}
use Rattle.ext_parser.proofs.second_walk.with_extension.Goals as goal

-- the walks over an extension
abbrev name-of : List ℕ → Before → DraftExtension → Checked
name-of prefix before e = fresh (prefix ++ codes "name") before.extensions e.name

abbrev items-of : List ℕ → Before → DraftExtension → Checked
items-of prefix before e = row (λ (i : ItemDecl). i.name) item_right (prefix ++ codes "items") 0 before.items e.items

abbrev beans-of : List ℕ → Before → DraftExtension → Checked
beans-of prefix before e = row (λ (b : BeanDecl). b.name) bean_right (prefix ++ codes "beans") 0 before.beans e.beans

abbrev recorders-of : List ℕ → Before → DraftExtension → Checked
recorders-of prefix before e = row (λ (r : DraftRecorder). r.name) recorder_right (prefix ++ codes "recorders") 0 before.recorders e.recorders

abbrev steps-of : Known → List ℕ → DraftExtension → Checked
steps-of known prefix e = row (λ (s : DraftStep). s.name) (step_right known) (prefix ++ codes "steps") 0 [] e.steps

same-names : (a b c d a' b' c' d' : List (List ℕ)) → a ≡ a' → b ≡ b' → c ≡ c' → d ≡ d'
    → ◌≡◌ {A = Before} (record { extensions = a; items = b; beans = c; recorders = d }) (record { extensions = a'; items = b'; beans = c'; recorders = d' })
same-names a b c d a' b' c' d' p q r s =
    ap (λ (x : List (List ℕ)). record { extensions = x; items = b; beans = c; recorders = d }) p
    ∙ ap (λ (x : List (List ℕ)). record { extensions = a'; items = x; beans = c; recorders = d }) q
    ∙ ap (λ (x : List (List ℕ)). record { extensions = a'; items = b'; beans = x; recorders = d }) r
    ∙ ap (λ (x : List (List ℕ)). record { extensions = a'; items = b'; beans = c'; recorders = x }) s

pub returns-in_err-beans : goal.returns-in_err-beans
unfolding extension_right
returns-in_err-beans c =
    third-fails (name-of c.args.prefix.now c.args.before c.args.extension.now) (items-of c.args.prefix.now c.args.before c.args.extension.now) (beans-of c.args.prefix.now c.args.before c.args.extension.now)
    (recorders-of c.args.prefix.now c.args.before c.args.extension.now) (steps-of c.args.known.now c.args.prefix.now c.args.extension.now) (names_with c.args.before c.args.extension.now)
    c.in_err-beans.field-0.0 c.from_residual-in_err-beans.result
    (was-right (name-of c.args.prefix.now c.args.before c.args.extension.now) (rw c.as_str.ensures at c.in_ok-fresh_name.ensures))
    (given c.in_ok-items.items _ (items-of c.args.prefix.now c.args.before c.args.extension.now) c.in_ok-items.ensures).0
    (refused c.in_err-beans.field-0.0 _ (beans-of c.args.prefix.now c.args.before c.args.extension.now) c.in_err-beans.ensures)
    (grind (arith, c.from_residual-in_err-beans.ensures))

pub returns-in_err-recorders : goal.returns-in_err-recorders
unfolding extension_right
returns-in_err-recorders c =
    fourth-fails (name-of c.args.prefix.now c.args.before c.args.extension.now) (items-of c.args.prefix.now c.args.before c.args.extension.now) (beans-of c.args.prefix.now c.args.before c.args.extension.now)
    (recorders-of c.args.prefix.now c.args.before c.args.extension.now) (steps-of c.args.known.now c.args.prefix.now c.args.extension.now) (names_with c.args.before c.args.extension.now)
    c.in_err-recorders.field-0.0 c.from_residual-in_err-recorders.result
    (was-right (name-of c.args.prefix.now c.args.before c.args.extension.now) (rw c.as_str.ensures at c.in_ok-fresh_name.ensures))
    (given c.in_ok-items.items _ (items-of c.args.prefix.now c.args.before c.args.extension.now) c.in_ok-items.ensures).0
    (given c.in_ok-beans.beans _ (beans-of c.args.prefix.now c.args.before c.args.extension.now) c.in_ok-beans.ensures).0
    (refused c.in_err-recorders.field-0.0 _ (recorders-of c.args.prefix.now c.args.before c.args.extension.now) c.in_err-recorders.ensures)
    (grind (arith, c.from_residual-in_err-recorders.ensures))

pub returns-in_err-own_row : goal.returns-in_err-own_row
unfolding extension_right
returns-in_err-own_row c =
    fifth-fails (name-of c.args.prefix.now c.args.before c.args.extension.now) (items-of c.args.prefix.now c.args.before c.args.extension.now) (beans-of c.args.prefix.now c.args.before c.args.extension.now)
    (recorders-of c.args.prefix.now c.args.before c.args.extension.now) (steps-of c.args.known.now c.args.prefix.now c.args.extension.now) (names_with c.args.before c.args.extension.now)
    c.in_err-own_row.field-0.0 c.from_residual-in_err-own_row.result
    (was-right (name-of c.args.prefix.now c.args.before c.args.extension.now) (rw c.as_str.ensures at c.in_ok-fresh_name.ensures))
    (given c.in_ok-items.items _ (items-of c.args.prefix.now c.args.before c.args.extension.now) c.in_ok-items.ensures).0
    (given c.in_ok-beans.beans _ (beans-of c.args.prefix.now c.args.before c.args.extension.now) c.in_ok-beans.ensures).0
    (given c.in_ok-recorders.recorders _ (recorders-of c.args.prefix.now c.args.before c.args.extension.now) c.in_ok-recorders.ensures).0
    (refused-checked c.in_err-own_row.field-0.0 (steps-of c.args.known.now c.args.prefix.now c.args.extension.now) c.in_err-own_row.ensures)
    (grind (arith, c.from_residual-in_err-own_row.ensures))

pub returns : goal.returns
unfolding extension_right
returns c =
    let items = (given c.in_ok-items.items _ (items-of c.args.prefix.now c.args.before c.args.extension.now) c.in_ok-items.ensures) in
    let beans = (given c.in_ok-beans.beans _ (beans-of c.args.prefix.now c.args.before c.args.extension.now) c.in_ok-beans.ensures) in
    let recorders = (given c.in_ok-recorders.recorders _ (recorders-of c.args.prefix.now c.args.before c.args.extension.now) c.in_ok-recorders.ensures) in
    let steps = was-right (steps-of c.args.known.now c.args.prefix.now c.args.extension.now) c.in_ok-own_row.ensures in
    inr (
    ap (λ (b : Before). Ok b)
    (same-names c.in_ok-extensions.extensions c.in_ok-items.items c.in_ok-beans.beans c.in_ok-recorders.recorders _ _ _ _
    (c.in_ok-extensions.ensures ∙ ap (λ (n : List ℕ). c.args.before.extensions ++ n ∷ []) c.as_str-2.ensures) items.1 beans.1 recorders.1)
    ∙ sym (all-right (name-of c.args.prefix.now c.args.before c.args.extension.now) (items-of c.args.prefix.now c.args.before c.args.extension.now) (beans-of c.args.prefix.now c.args.before c.args.extension.now)
    (recorders-of c.args.prefix.now c.args.before c.args.extension.now) (steps-of c.args.known.now c.args.prefix.now c.args.extension.now) (names_with c.args.before c.args.extension.now)
    (was-right (name-of c.args.prefix.now c.args.before c.args.extension.now) (rw c.as_str.ensures at c.in_ok-fresh_name.ensures)) items.0 beans.0 recorders.0 steps)
    )
