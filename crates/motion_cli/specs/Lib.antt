pub mod Plans
pub mod Causes
pub mod Ends
pub mod Again
pub mod Laws
pub mod Said
