-- Records and their fields, as they are read one after another, and the invariant of them.
pub mod SameLists
pub mod RowLaws
pub mod Eleven
pub mod RecordLoop
pub mod ColumnRanges
pub mod ItemsKept
pub mod RowsKept
pub mod InputsKept
pub mod ReadingKept
pub mod Alike
pub mod Apart
