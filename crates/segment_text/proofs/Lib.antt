-- `header_text` rests on TextLaws and HeaderLaws, `read_trace_segment` on BlankLines,
-- `records_are_read_back` on back, `numbers_have_bits` on BitLaws.
pub mod TextLaws
pub mod HeaderLaws
pub mod BlankLines
pub mod back
pub mod BitLaws
