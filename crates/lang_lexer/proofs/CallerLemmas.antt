-- What the proofs of other crates cite of this crate's.
pub use Rattle.lang_lexer.proofs.Marked.{same_is, same_self}
