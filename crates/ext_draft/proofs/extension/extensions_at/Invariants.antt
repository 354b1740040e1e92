use Rattle.std.proofs.Common.{◌≡◌, ◌++◌, drop}
use Rattle.toml.specs.View.{items_view}
use Rattle.ext_draft.specs.Places.{shown}
use Rattle.ext_draft.specs.FirstWalk.{extensions_at, no_sums, IsWithin}
use Rattle.ext_draft.proofs.Reading.{after}
use Rattle.ext_draft.proofs.extension.extensions_at.Given as goal

-- what is left comes after the extensions found so far
abbrev pub invariant-loop-index : goal.invariant-loop-index
invariant-loop-index l = record {
  rest : extensions_at no_sums (shown l.prefix ++ l.key) 0 (items_view l.values) ≡ after l.found (extensions_at l.sums (shown l.prefix ++ l.key) l.index (items_view (drop l.index l.values)));
  within : IsWithin l.sums;
}
