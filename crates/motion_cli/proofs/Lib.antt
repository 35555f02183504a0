pub mod AskedLaws
pub mod FileLaws
pub mod SaidLaws
pub mod WrittenLaws
