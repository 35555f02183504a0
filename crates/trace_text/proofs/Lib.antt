-- `write_trace` rests on written/Writing and written/Texts, `read_trace` on read/RecordLoop and
-- read/ReadingKept, `records_are_read_back` on back/RecordLaws, `rows_are_read_back` on
-- back/EntryLaws, `traces_are_read_back` on back/TraceBack.
pub mod written
pub mod read
pub mod back
-- the entries that were found rest on FoundLists, and whether inputs are others on SameInputs
pub mod FoundLists
pub mod Versions
pub mod SameInputs
