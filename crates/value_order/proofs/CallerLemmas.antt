-- Lemmas for callers: what holds of each value of an item holds of each that a consumer finds.
use Rattle.std.proofs.Common.{◌≡◌, ℤ, List, []}
use Rattle.std.specs.List.{All}
use Rattle.std.proofs.lemmas.List.Elements.{All-nil}
use Rattle.item_types.specs.declared.decl.ItemKind.{ItemKind}
use Rattle.item_types.specs.declared.decl.ItemKind.TheVariants.{Simple, Multi, Ordered, Empty}
use Rattle.item_types.specs.declared.decl.Names.{Names}
use Rattle.item_types.specs.declared.value.Value.{Value}
use Rattle.value_order.specs.Found.{found}
use Rattle.value_order.proofs.Elements.{All-sorted}

pub All-found : (P : Value → Type 0) (names : Names) (kind : ItemKind) (values : List Value) → All P values → All P (found names kind values)
All-found P names Simple values all = all
All-found P names Multi values all = all
All-found P names (Ordered field) values all = All-sorted P _ values all
All-found P names Empty values all = All-nil P
