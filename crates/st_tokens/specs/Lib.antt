pub mod Bytes
pub mod Comments
pub mod Numbers
pub mod Words
pub mod Signs
pub mod Lexemes
pub mod Tokens
