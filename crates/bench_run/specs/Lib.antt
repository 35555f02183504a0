pub mod Run
pub mod Going
pub mod LegalRun
pub mod InStep
pub mod Enough
pub mod Endings
pub use Rattle.motion_laws.specs.Laws
