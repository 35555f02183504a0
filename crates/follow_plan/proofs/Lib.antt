pub mod CamLaws
pub mod CamPlaces
pub mod Floors
pub mod Travels
