-- What other crates' proofs cite of this crate's.
pub use Rattle.recording_units.proofs.Refs.{IsAt, ArgAt, ArgsAt, PieceAt, PiecesAt, pieces_at}
