pub mod PlanLaws
pub mod Refusals
pub mod Statuses
pub mod Readings
pub mod Endings
pub mod CourseLaws
pub mod Both
pub mod OverLaws
