pub mod Admissible
pub mod Taken
pub mod Toward
pub mod Laws
