-- What the proofs of other crates cite of this crate's.
pub use Rattle.lang_grammar.proofs.Holding.{Holds, holds_as, holds_nothing, holds_give, holds_form, holds_last, holds_sign, holds_name, holds_number, holds_text, holds_here, holds_first, holds_optional, holds_choose, holds_allowed, holds_opening, parts_all, holds_more, Parts, holds_where, holds_each}
pub use Rattle.lang_grammar.proofs.Texts.{sentence, only, stuck, first, text_reads, text_stuck, is_text, is_stuck}
