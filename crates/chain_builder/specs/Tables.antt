-- What the tables of a chain hold: exactly the effective productions, the needed steps and the edges. This project's own.
use Rattle.std.specs.Prelude.{◌≡◌, ℕ, ◌↔◌, List, length, Contains}
use Rattle.item_types.specs.declared.decl.ItemDecl.{ItemDecl}
use Rattle.item_types.specs.declared.step.StepDecl.{StepDecl}
use Rattle.chain_builder.specs.declared.tables.Tables.{Tables}
use Rattle.chain_builder.specs.Rows.{row, AreAscending}
use Rattle.chain_builder.specs.EffectiveProducer.{IsEffectiveProducer}
use Rattle.chain_builder.specs.Needed.{IsNeeded}
use Rattle.chain_builder.specs.Edge.{HasEdge}

pub record AreTables (steps : List StepDecl) (items : List ItemDecl) (finals : List ℕ) (tables : Tables) : Type 0 where
  pub limit : tables.needed.limit ≡ length steps
  pub needed : (s : ℕ) → Contains tables.needed.items s ↔ IsNeeded steps finals s
  pub effective : (s t : ℕ) → Contains (row tables.effective s) t ↔ IsEffectiveProducer steps s t
  pub effective_count : length tables.effective ≡ length steps
  pub into_count : length tables.into ≡ length steps
  pub into : (s p : ℕ) → Contains (row tables.into s) p ↔ HasEdge steps finals p s
  pub into_rise : AreAscending tables.into
  pub dependents_count : length tables.dependents ≡ length steps
  pub dependents : (p s : ℕ) → Contains (row tables.dependents p) s ↔ HasEdge steps finals p s
  pub dependents_rise : AreAscending tables.dependents
