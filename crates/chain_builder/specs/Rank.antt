-- Ranks of steps: numbers that rise along each edge. This project's own.
use Rattle.std.specs.Prelude.{ℕ, ◌<◌, List}
use Rattle.item_types.specs.declared.step.StepDecl.{StepDecl}
use Rattle.chain_builder.specs.Edge.{HasEdge}

pub record HasRank (steps : List StepDecl) (finals : List ℕ) : Type 0 where
  pub rank : ℕ → ℕ
  pub rises : (p s : ℕ) → HasEdge steps finals p s → rank p < rank s
