mod BendLaws
mod GreatestLaws
pub mod LineIsPath
mod LineLaws
mod LinesKept
mod PartLaws
mod RateLaws
mod ShareLaws
mod Stopping
