-- What other crates' proofs cite of this crate's.
pub use Rattle.class_pool.proofs.Lengths.{modified_length}
pub use Rattle.class_pool.proofs.Potential.{not_bad, bad_right, left_at_most, size_one, kind_in}
pub use Rattle.class_pool.proofs.TagBytes.{tag_read, tag_only}
pub use Rattle.class_pool.proofs.Texts.{text_takes, text_again}
pub use Rattle.class_pool.proofs.Entering.{enters, done, shaped_append, grows_self, grows_then}
pub use Rattle.class_pool.proofs.Shows.{both, holds_more, still_holds}
