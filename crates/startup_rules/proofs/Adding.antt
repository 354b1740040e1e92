-- What an operation leaves as it was.
use Rattle.std.proofs.Common.{◌≡◌, ℕ, zero, suc, ◌+◌, ◌<◌, ◌≤◌, Bool, true, false, List, [], ◌∷◌, ◌++◌, map, length, Option, Some, None, Ok, Err, Result, nat_lt, if◌then◌else◌, refl, sym, ap, ◌∙◌, arith, subst, ltb-true}
use Rattle.std.specs.Prelude.{set, slice_get, slice_index_or}
use Rattle.std.proofs.lemmas.List.{append-nil, append_assoc, map-append}
use Rattle.std.proofs.lemmas.Bool.{ltb-false}
use Rattle.item_types.specs.Modified.{modified_len}
use Rattle.item_types.specs.declared.decl.Names.{Names}
use Rattle.startup_rules.specs.Worlds.{World, parts, with_more, with_part, replaced, changed, entered, list_added, field_set}
use Rattle.startup_rules.specs.declared.slot.Slot.{Slot}
use Rattle.startup_rules.specs.declared.slot.Slot.TheVariants as slot
use Rattle.startup_rules.specs.declared.slot.Object.{Object}
use Rattle.startup_rules.specs.declared.slot.Object.TheVariants as object
use Rattle.startup_rules.specs.declared.fault.MethodFault.{MethodFault}
use Rattle.startup_rules.specs.declared.fault.MethodFault.TheVariants.{Kind as KindFault, TooManyTurns, TooManyCells, TextTooLong, TooMuchText}
use Rattle.startup_rules.specs.declared.op.Op.{Op}
use Rattle.startup_rules.specs.declared.op.Op.TheVariants as op
use Rattle.item_types.specs.Named.{static_place}
use Rattle.operators.specs.Operations as on
use Rattle.operators.specs.declared.operation.Added.{Added}
use Rattle.operators.specs.declared.operation.Added.TheVariants as sum
use Rattle.startup_rules.specs.Operations.{Within, Checked, Effect, answer, then_ok, turn, pay_cells, pay_text, operand, summed, plus, object_of, items_of, there, field, number, write, add, made, line_of, printed, bean, set_static, effect}
use Rattle.startup_rules.specs.Acting.{settled, op as makes}
use Rattle.startup_rules.specs.Laws.{Kind, kind, kinds, Begins, Held, Adds, Spends}

pub adds_none : (w : World) → Adds w w
adds_none w = record { objects = ([], sym (append-nil (kinds w))); context = refl; lines = ([], sym (append-nil w.lines)); turns = omega arith; cells = omega arith; text = omega arith; held = λ h. h }

begins_more : {A : Type 0} (xs ys zs : List A) → Begins xs ys → Begins ys zs → Begins xs zs
begins_more xs ys zs a b = (a.0 ++ b.0, b.1 ∙ (ap (λ l. l ++ b.0) a.1 ∙ append_assoc xs a.0 b.0))

pub adds_more : (w w1 w2 : World) → Adds w w1 → Adds w1 w2 → Adds w w2
adds_more w w1 w2 a b = record {
  objects = begins_more (kinds w) (kinds w1) (kinds w2) a.objects b.objects;
  context = b.context ∙ a.context;
  lines = begins_more w.lines w1.lines w2.lines a.lines b.lines;
  turns = let x = a.turns in let y = b.turns in omega arith;
  cells = let x = a.cells in let y = b.cells in omega arith;
  text = let x = a.text in let y = b.text in omega arith;
  held = λ h. b.held (a.held h);
}

-- an effect that adds, where it is one
abbrev Fine : World → Checked (Slot × World) → Type 0
Fine w r = Adds w (settled w r).1

answered : (r : Checked Slot) (w : World) → Fine w (answer r w)
answered (Ok v) w = adds_none w
answered (Err f) w = adds_none w

not_less : (m n : ℕ) → nat_lt m n ≡ false → n ≤ m
not_less m n e = ltb-false m n e

after_cells : (n : ℕ) (w : World) (f : World → Checked (Slot × World)) → (w.cells + n ≤ 1000000 → Fine w (f (record w { cells = w.cells + n }))) → Fine w (then_ok (pay_cells n w) f)
after_cells n w f h = at (nat_lt 1000000 (w.cells + n)) (λ e. not_less 1000000 (w.cells + n) e)
  where
    at : (b : Bool) → (b ≡ false → w.cells + n ≤ 1000000) → Fine w (then_ok (if b then Err TooManyCells else Ok (record w { cells = w.cells + n })) f)
    at true le = adds_none w
    at false le = h (le refl)

after_text : (n : ℕ) (w : World) (f : World → Checked (Slot × World)) → (w.text + n ≤ 16777216 → Fine w (f (record w { text = w.text + n }))) → Fine w (then_ok (pay_text n w) f)
after_text n w f h = at (nat_lt 16777216 (w.text + n)) (λ e. not_less 16777216 (w.text + n) e)
  where
    at : (b : Bool) → (b ≡ false → w.text + n ≤ 16777216) → Fine w (then_ok (if b then Err TooMuchText else Ok (record w { text = w.text + n })) f)
    at true le = adds_none w
    at false le = h (le refl)

turn_adds : (turns : ℕ) (w : World) → Fine w (turn turns w)
turn_adds turns w = at (nat_lt w.turns turns)
  where
    at : (b : Bool) → Fine w (if b then Ok (slot.Null, record w { turns = w.turns + 1 }) else Err TooManyTurns)
    at true = record { objects = ([], sym (append-nil (kinds w))); context = refl; lines = ([], sym (append-nil w.lines)); turns = omega arith; cells = omega arith; text = omega arith; held = λ h. record { cells = h.cells; text = h.text } }
    at false = adds_none w

summed_adds : (at : ℕ) (a : Added) (w : World) → Fine w (summed at a w)
summed_adds at (sum.Long n) w = adds_none w
summed_adds at sum.WrongKind w = adds_none w
summed_adds at sum.TooLong w = adds_none w
summed_adds at (sum.Str t) w = after_text (modified_len t) w (λ p. Ok (slot.Str t, p))
    (λ le. record { objects = ([], sym (append-nil (kinds w))); context = refl; lines = ([], sym (append-nil w.lines)); turns = omega arith; cells = omega arith; text = omega arith; held = λ h. record { cells = h.cells; text = le } })

plus_adds : (at : ℕ) (a b : Slot) (w : World) → Fine w (plus at a b w)
plus_adds at a b w = summed_adds at (on.plus (operand w a) (operand w b)) w

static_adds : (cx : Within) (k : Option ℕ) (v : Slot) (w : World) → Adds w (set_static cx k v w)
static_adds cx None v w = adds_none w
static_adds cx (Some k) v w = record { objects = ([], sym (append-nil (kinds w))); context = refl; lines = ([], sym (append-nil w.lines)); turns = omega arith; cells = omega arith; text = omega arith; held = λ h. record { cells = h.cells; text = h.text } }

-- an object that is replaced by one of its kind
same_kinds : (l : List Object) (o : ℕ) (f : Object → Object) → ((x : Object) → kind (f x) ≡ kind x) → map kind (replaced l o f (slice_get l o)) ≡ map kind l
same_kinds [] o f same = refl
same_kinds (z ∷ zs) zero f same = ap (λ (k : Kind). k ∷ map kind zs) (same z)
same_kinds (z ∷ zs) (suc o) f same = further z zs o f (slice_get zs o) (same_kinds zs o f same)
  where
    further : (z : Object) (zs : List Object) (o : ℕ) (f : Object → Object) (x : Option Object) → map kind (replaced zs o f x) ≡ map kind zs →
        map kind (replaced (z ∷ zs) (suc o) f x) ≡ map kind (z ∷ zs)
    further z zs o f None h = refl
    further z zs o f (Some x) h = ap (λ (l : List Kind). kind z ∷ l) h

more_kind : (v : Slot) (x : Object) → kind (with_more v x) ≡ kind x
more_kind v (object.List items) = refl
more_kind v (object.Bean k fields) = refl
more_kind v (object.Recorder k fields) = refl

part_kind : (k : ℕ) (v : Slot) (x : Object) → kind (with_part k v x) ≡ kind x
part_kind k v (object.List items) = refl
part_kind k v (object.Bean n fields) = refl
part_kind k v (object.Recorder n fields) = refl

changed_adds : (o : ℕ) (f : Object → Object) (w : World) → ((x : Object) → kind (f x) ≡ kind x) → Adds w (changed o f w)
changed_adds o f w same = record {
  objects = ([], same_kinds w.objects o f same ∙ sym (append-nil (kinds w)));
  context = refl;
  lines = ([], sym (append-nil w.lines));
  turns = omega arith;
  cells = omega arith;
  text = omega arith;
  held = λ h. record { cells = h.cells; text = h.text };
}

write_adds : (names : Names) (at : ℕ) (f : List ℕ) (o v : Slot) (w : World) → Fine w (write names at f o v w)
write_adds names at f o v w = go (field names at f o w)
  where
    go : (r : Checked (Object × ℕ)) → Fine w (then_ok r (λ (r : Object × ℕ). Ok (slot.Null, field_set (number o) r.1 v w)))
    go (Err e) = adds_none w
    go (Ok r) = changed_adds (number o) (with_part r.1 v) w (part_kind r.1 v)

paid_adds : (n : ℕ) (w : World) → w.cells + n ≤ 1000000 → Adds w (record w { cells = w.cells + n })
paid_adds n w le = record { objects = ([], sym (append-nil (kinds w))); context = refl; lines = ([], sym (append-nil w.lines)); turns = omega arith; cells = omega arith; text = omega arith; held = λ h. record { cells = le; text = h.text } }

add_adds : (at : ℕ) (l v : Slot) (w : World) → Fine w (add at l v w)
add_adds at l v w = go (there at (items_of (object_of w l)))
  where
    go : (r : Checked (List Slot)) → Fine w (then_ok r (λ (items : List Slot). then_ok (pay_cells 1 w) (λ paid. Ok (slot.Null, list_added (number l) v paid))))
    go (Err e) = adds_none w
    go (Ok items) = after_cells 1 w (λ paid. Ok (slot.Null, list_added (number l) v paid))
        (λ le. adds_more w (record w { cells = w.cells + 1 }) (list_added (number l) v (record w { cells = w.cells + 1 })) (paid_adds 1 w le)
        (changed_adds (number l) (with_more v) (record w { cells = w.cells + 1 }) (more_kind v)))

made_adds : (x : Object) (w : World) → Fine w (made x w)
made_adds x w = after_cells (1 + length (parts x)) w (λ paid. Ok (slot.Obj (length w.objects), (entered x paid).1))
    (λ le. record {
      objects = (kind x ∷ [], map-append kind w.objects (x ∷ []));
      context = refl;
      lines = ([], sym (append-nil w.lines));
      turns = omega arith;
      cells = omega arith;
      text = omega arith;
      held = λ h. record { cells = le; text = h.text };
    })

printed_adds : (at : ℕ) (v : Slot) (w : World) → Fine w (printed at v w)
printed_adds at v w = go (line_of at v)
  where
    go : (r : Checked (List ℕ)) → Fine w (then_ok r (λ t. then_ok (pay_text (modified_len t + 1) w) (λ paid. Ok (slot.Null, record paid { lines = w.lines ++ t ∷ [] }))))
    go (Err e) = adds_none w
    go (Ok t) = after_text (modified_len t + 1) w (λ paid. Ok (slot.Null, record paid { lines = w.lines ++ t ∷ [] }))
        (λ le. record { objects = ([], sym (append-nil (kinds w))); context = refl; lines = (t ∷ [], refl); turns = omega arith; cells = omega arith; text = omega arith; held = λ h. record { cells = h.cells; text = le } })

pub operation_adds : (cx : Within) (o : Op) (w : World) → Adds w (makes cx o w).1
unfolding effect
operation_adds cx op.Turn w = turn_adds cx.turns w
operation_adds cx op.LongText w = adds_none w
operation_adds cx (op.GetStatic f) w = adds_none w
operation_adds cx (op.PutStatic v f) w = static_adds cx (static_place cx.names cx.recorder f) v w
operation_adds cx (op.Plus a b at) w = plus_adds at a b w
operation_adds cx (op.Less a b at) w = answered _ w
operation_adds cx (op.Equal a b) w = adds_none w
operation_adds cx (op.Not v at) w = answered _ w
operation_adds cx (op.Len v at) w = answered _ w
operation_adds cx (op.FieldOf v f at) w = answered _ w
operation_adds cx (op.Truth v at) w = answered _ w
operation_adds cx (op.ListOf items) w = made_adds (object.List items) w
operation_adds cx (op.Bean written name) w = made_adds (bean cx.names name written) w
operation_adds cx (op.Set o v f at) w = write_adds cx.names at f o v w
operation_adds cx (op.Add l v at) w = add_adds at l v w
operation_adds cx (op.Print v at) w = printed_adds at v w
operation_adds cx (op.FailWith v at) w = answered _ w
operation_adds cx (op.Rows v at) w = answered _ w

abbrev turned : World → Bool → Checked (Slot × World)
turned w b = if b then Ok (slot.Null, record w { turns = w.turns + 1 }) else Err TooManyTurns

pub turn_spends : (cx : Within) (w : World) (v : Slot) → (makes cx op.Turn w).0 ≡ Ok v → Spends cx.turns w (makes cx op.Turn w).1
unfolding effect
turn_spends cx w v h = at (nat_lt w.turns cx.turns) (λ e. ltb-true w.turns cx.turns e) h
  where
    at : (b : Bool) → (b ≡ true → w.turns < cx.turns) → (settled w (turned w b)).0 ≡ Ok v → Spends cx.turns w (settled w (turned w b)).1
    at true lt h = record { below = lt refl; one_more = refl }
    at false lt h = absurd (cc)
