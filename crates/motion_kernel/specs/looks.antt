-- What axes and groups look at in calls and cycles.
pub mod GroupLooks
pub mod DriveAnswers
pub mod Masters
pub mod AxisLooks
pub mod Around
