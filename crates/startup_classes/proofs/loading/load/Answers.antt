use Rattle.std.proofs.Common.{◌≡◌, ap, sym, subst, refl, ◌∙◌, Ok, Err, List, ℕ, Result, true, false}
use Rattle.std.proofs.lemmas.Result.{err_from_is_err_and}
use Rattle.class_pool.specs.declared.class.Class.{Class}
use Rattle.name_index.specs.Place.{has}
use Rattle.startup_classes.specs.declared.load_fault.LoadFault.{LoadFault}
use Rattle.startup_classes.specs.declared.load_fault.LoadFault.TheVariants as load
use Rattle.startup_classes.specs.Loading.{main_name, IsRefused, Loads}
use Rattle.startup_classes.proofs.Told.{loads, loads_only, loaded_first, no_main_refused, no_main_first, moved, moved_all, err_only, err_first, stop_refused}
use Rattle.startup_classes.proofs.loading.load.Goals as goal

abbrev err : LoadFault → Result (List Class) LoadFault
err f = Err f

abbrev ok : List Class → Result (List Class) LoadFault
ok cs = Ok cs

pub returns-in_err-list-clause-only : goal.returns-in_err-list-clause-only
returns-in_err-list-clause-only c = λ ds g.
    let p = err_from_is_err_and c.from_residual.result c.from_residual.ensures.1 in
    err_only (record { never_both = c.one_reading.ensures.never_both; one_class = c.one_reading.ensures.one_class; one_place = c.one_reading.ensures.one_place })
    c.args.listed.now c.args.files.now c.from_residual.result c.in_err-list.field-0.0 ds (p.1 ∙ ap err p.2)
    (λ some. moved c.as_slice.result.now c.as_slice-2.result.now c.args.listed.now c.args.files.now c.in_err-list.field-0.0 c.as_slice.ensures c.as_slice-2.ensures (c.in_err-list.ensures.stops c.in_err-list.field-0.0 refl some)) g

pub returns-in_err-list-clause-refused : goal.returns-in_err-list-clause-refused
returns-in_err-list-clause-refused c = λ f e some.
    let p = err_from_is_err_and c.from_residual.result c.from_residual.ensures.1 in
    let a : c.from_residual.result ≡ Err p.0 = p.1 in
    let b : p.0 ≡ c.in_err-list.field-0.0 = p.2 in
    let same : c.in_err-list.field-0.0 ≡ f = cc in
    stop_refused c.args.listed.now c.args.files.now f (moved c.as_slice.result.now c.as_slice-2.result.now c.args.listed.now c.args.files.now f c.as_slice.ensures c.as_slice-2.ensures (c.in_err-list.ensures.stops f (ap err same) some))

pub returns-in_err-list-clause-first : goal.returns-in_err-list-clause-first
returns-in_err-list-clause-first c = λ f g.
    let p = err_from_is_err_and c.from_residual.result c.from_residual.ensures.1 in
    err_first (record { never_both = c.one_reading.ensures.never_both; one_class = c.one_reading.ensures.one_class; one_place = c.one_reading.ensures.one_place })
    c.args.listed.now c.args.files.now c.from_residual.result c.in_err-list.field-0.0 f (p.1 ∙ ap err p.2)
    (λ some. moved c.as_slice.result.now c.as_slice-2.result.now c.args.listed.now c.args.files.now c.in_err-list.field-0.0 c.as_slice.ensures c.as_slice-2.ensures (c.in_err-list.ensures.stops c.in_err-list.field-0.0 refl some)) g

pub returns-then-not-lists-clause-refused : goal.returns-then-not-lists-clause-refused
returns-then-not-lists-clause-refused c = λ f e some.
    let same : load.NoMain ≡ f = cc in
    let none : has c.args.listed.now main_name ≡ false = ap (λ (x : List (List ℕ)). has x main_name) (sym c.as_slice-3.ensures) ∙ sym c.lists.ensures ∙ c.if-not-lists.true in
    subst (IsRefused c.args.listed.now c.args.files.now) same (no_main_refused c.args.listed.now c.args.files.now c.in_ok-list.list (moved_all c.as_slice.result.now c.as_slice-2.result.now c.args.listed.now c.args.files.now c.in_ok-list.list c.as_slice.ensures c.as_slice-2.ensures c.in_ok-list.ensures.all) none)

pub returns-then-not-lists-clause-first : goal.returns-then-not-lists-clause-first
returns-then-not-lists-clause-first c = λ f g some.
    ap err (no_main_first (record { never_both = c.one_reading.ensures.never_both; one_class = c.one_reading.ensures.one_class; one_place = c.one_reading.ensures.one_place })
    c.args.listed.now c.args.files.now c.in_ok-list.list f (moved_all c.as_slice.result.now c.as_slice-2.result.now c.args.listed.now c.args.files.now c.in_ok-list.list c.as_slice.ensures c.as_slice-2.ensures c.in_ok-list.ensures.all) g)

pub returns-clause-loads : goal.returns-clause-loads
returns-clause-loads c =
    let main : has c.args.listed.now main_name ≡ true = ap (λ (x : List (List ℕ)). has x main_name) (sym c.as_slice-3.ensures) ∙ sym c.lists.ensures ∙ c.if-not-lists.false in
    subst (Loads c.args.listed.now c.args.files.now) (sym c.of.ensures) (loads c.args.listed.now c.args.files.now c.in_ok-list.list (moved_all c.as_slice.result.now c.as_slice-2.result.now c.args.listed.now c.args.files.now c.in_ok-list.list c.as_slice.ensures c.as_slice-2.ensures c.in_ok-list.ensures.all) main)

pub returns-clause-only : goal.returns-clause-only
returns-clause-only c = λ ds g.
    let main : has c.args.listed.now main_name ≡ true = ap (λ (x : List (List ℕ)). has x main_name) (sym c.as_slice-3.ensures) ∙ sym c.lists.ensures ∙ c.if-not-lists.false in
    ap ok (loads_only (record { never_both = c.one_reading.ensures.never_both; one_class = c.one_reading.ensures.one_class; one_place = c.one_reading.ensures.one_place })
    c.args.listed.now c.args.files.now c.in_ok-list.list ds c.requires.same (moved_all c.as_slice.result.now c.as_slice-2.result.now c.args.listed.now c.args.files.now c.in_ok-list.list c.as_slice.ensures c.as_slice-2.ensures c.in_ok-list.ensures.all) main g ∙ sym c.of.ensures)

pub returns-clause-first : goal.returns-clause-first
returns-clause-first c = λ f g.
    let main : has c.args.listed.now main_name ≡ true = ap (λ (x : List (List ℕ)). has x main_name) (sym c.as_slice-3.ensures) ∙ sym c.lists.ensures ∙ c.if-not-lists.false in
    absurd (loaded_first (record { never_both = c.one_reading.ensures.never_both; one_class = c.one_reading.ensures.one_class; one_place = c.one_reading.ensures.one_place })
    c.args.listed.now c.args.files.now c.in_ok-list.list f (moved_all c.as_slice.result.now c.as_slice-2.result.now c.args.listed.now c.args.files.now c.in_ok-list.list c.as_slice.ensures c.as_slice-2.ensures c.in_ok-list.ensures.all) main g)
