-- No text in a value is longer than a class file can hold, where none of its parts has one.
use Rattle.std.proofs.Common.{◌≡◌, ℕ, ◌≤◌, List, [], ◌∷◌, map, sym, ap, subst, ◌∙◌, arith}
use Rattle.std.specs.List.{All}
use Rattle.std.proofs.lemmas.List.Elements.{All-nil, All-cons, All-head, All-tail}
use Rattle.item_types.specs.Measure.{greatest, longest, longest_step}
use Rattle.item_types.specs.declared.value.Proxy.{Proxy}
use Rattle.item_types.specs.declared.value.Value.{Value, out-Value, map-Value, fold-roll-Value, fold_out-Value}
use Rattle.item_types.specs.declared.value.Value.TheOpen as one
use Rattle.item_types.specs.declared.value.Value.TheVariants as value
use Rattle.step_state.specs.Operations.{Layer}
use Rattle.step_eval.proofs.Closed.{Always, IsClosed}

abbrev pub Short : Value → Type 0
Short v = longest v ≤ 65535

by_form : (v : Value) (y : Layer) → out-Value v ≡ y → longest v ≡ longest_step (map-Value Value ℕ longest y)
by_form v y e = fold_out-Value ℕ longest_step v ∙ ap (λ (z : Layer). longest_step (map-Value Value ℕ longest z)) e

all_short : (vs : List Value) → All Short vs → greatest (map longest vs) ≤ 65535
all_short [] h = omega arith
all_short (v ∷ vs) h = omega (arith, All-head Short v vs h, all_short vs (All-tail Short v vs h))

short_all : (vs : List Value) → greatest (map longest vs) ≤ 65535 → All Short vs
short_all [] h = All-nil Short
short_all (v ∷ vs) h = All-cons Short v vs (omega (arith, h)) (short_all vs (omega (arith, h)))

is_short : (v : Value) (n : ℕ) → longest v ≡ n → n ≤ 65535 → Short v
is_short v n e h = subst (λ m. m ≤ 65535) (sym e) h

pub short_Returned : (p : Proxy) → Short (value.Returned p)
short_Returned p = is_short _ 0 (ap longest (sym (value.rolls-Returned p)) ∙ fold-roll-Value ℕ longest_step (one.Returned p)) (omega arith)

pub short_closed : IsClosed Always Short
short_closed = record {
  null = is_short _ 0 (ap longest (sym value.rolls-Null) ∙ fold-roll-Value ℕ longest_step one.Null) (omega arith);
  truth = λ b. is_short _ 0 (ap longest (sym (value.rolls-Bool b)) ∙ fold-roll-Value ℕ longest_step (one.Bool b)) (omega arith);
  number = λ n. is_short _ 0 (ap longest (sym (value.rolls-Long n)) ∙ fold-roll-Value ℕ longest_step (one.Long n)) (omega arith);
  short = λ t h. is_short _ _ (ap longest (sym (value.rolls-Str t)) ∙ fold-roll-Value ℕ longest_step (one.Str t)) h;
  list = λ id parts h. is_short _ _ (ap longest (sym (value.rolls-List id parts)) ∙ fold-roll-Value ℕ longest_step (one.List id parts)) (all_short parts h);
  bean = λ id bean parts w h. is_short _ _ (ap longest (sym (value.rolls-Bean id bean parts)) ∙ fold-roll-Value ℕ longest_step (one.Bean id bean parts)) (all_short parts h);
  of_list = λ v id parts e h. short_all parts (subst (λ m. m ≤ 65535) (by_form v (one.List id parts) e) h);
  of_bean = λ v id bean parts e h. short_all parts (subst (λ m. m ≤ 65535) (by_form v (one.Bean id bean parts) e) h);
}
