-- What was taken, counted consumption by consumption.
use Rattle.std.proofs.Common.{◌≡◌, ℕ, ◌+◌, ◌-◌, ◌^◌, ◌<◌, ◌≤◌, min, false, nat_lt, List, ◌∷◌, length, map, sum, drop, get_or, refl, ap, ◌∙◌, arith, add-one}
use Rattle.std.proofs.Math.Seq.{drop-cons}
use Rattle.std.proofs.lemmas.Bool.Decides.{nat_tests}
use Rattle.item_types.specs.Measure.{cells, text_len}
use Rattle.item_types.specs.declared.step.Consume.{Consume}
use Rattle.item_types.specs.declared.value.Value.{Value}
use Rattle.step_eval.specs.BodyMeaning.{taking}
use Rattle.step_eval.specs.Taken.{list_at}

not_above : (n d : ℕ) → d ≤ n → nat_lt n d ≡ false
not_above n d h = grind (arith, nat_tests)

taking_step : (c : Consume) (cs : List Consume) (lists : List (List Value)) (place before text_before : ℕ) →
    before + sum (map cells (list_at lists place)) ≤ 16384 → text_before + sum (map text_len (list_at lists place)) ≤ 262144 →
    taking (c ∷ cs) lists place before text_before ≡ taking cs lists (place + 1) (before + sum (map cells (list_at lists place))) (text_before + sum (map text_len (list_at lists place)))
taking_step c cs lists place before text_before h k =
    rw (not_above 16384 (before + sum (map cells (list_at lists place))) h, not_above 262144 (text_before + sum (map text_len (list_at lists place))) k) refl

-- a consumption after which the sums are these, within the limits
pub taking_next : (cs : List Consume) (lists : List (List Value)) (place before text_before more text_more : ℕ) (d : Consume) → place < length cs →
    min (before + min (sum (map cells (list_at lists place))) (2 ^ 64 - 1)) (2 ^ 64 - 1) ≡ more →
    min (text_before + min (sum (map text_len (list_at lists place))) (2 ^ 64 - 1)) (2 ^ 64 - 1) ≡ text_more →
    before ≤ 16384 → text_before ≤ 262144 → more ≤ 16384 → text_more ≤ 262144 →
    taking (drop place cs) lists place before text_before ≡ taking (drop (place + 1) cs) lists (place + 1) more text_more
taking_next cs lists place before text_before more text_more d at e f b t m u =
    let here : before + sum (map cells (list_at lists place)) ≡ more = omega arith in
    let text_here : text_before + sum (map text_len (list_at lists place)) ≡ text_more = omega arith in
    let next : drop place cs ≡ get_or cs place d ∷ drop (place + 1) cs = rw (add-one, drop-cons cs place d at) refl in
    ap (λ (l : List Consume). taking l lists place before text_before) next ∙
    (taking_step (get_or cs place d) (drop (place + 1) cs) lists place before text_before (omega arith) (omega arith) ∙
    (ap (λ n. taking (drop (place + 1) cs) lists (place + 1) n (text_before + sum (map text_len (list_at lists place)))) here ∙
    ap (λ n. taking (drop (place + 1) cs) lists (place + 1) more n) text_here))
