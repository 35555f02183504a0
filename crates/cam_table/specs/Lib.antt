pub mod CamFault
pub mod CamTable
