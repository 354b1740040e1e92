-- What the proofs of other crates cite of this crate's.
pub use Rattle.name_index.proofs.Places.{bytes_eq-sym, placed, from-first, place-within}
