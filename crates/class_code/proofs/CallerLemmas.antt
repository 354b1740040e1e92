-- What other crates' proofs cite of this crate's.
pub use Rattle.class_code.proofs.Only.{only}
pub use Rattle.class_code.proofs.Whole.{read_back, length_is, size_small, size_some}
