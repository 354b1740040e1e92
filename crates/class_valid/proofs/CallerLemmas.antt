-- What other crates' proofs cite of this crate's.
pub use Rattle.class_valid.proofs.Codes.{code_is, fields_bytes}
pub use Rattle.class_valid.proofs.Formed.{pool_valid}
pub use Rattle.class_valid.proofs.ValidExactly.{valid_spelled}
pub use Rattle.class_valid.proofs.ValidOnly.{valid_only}
