pub mod NumberLaws
pub mod Texts
pub mod CommandLaws
pub mod ParseLaws
