-- What other crates' proofs cite of this crate's.
pub use Rattle.class_grammar.proofs.Files.{told_spells, told_only, told_stuck, told_first}
