-- What is read of a trace segment: its rules, its columns, its records, and its lines.
pub mod RuleNumbers
pub mod Columns
pub mod Commands
pub mod Axes
pub mod Groups
pub mod Instances
pub mod Befores
pub mod Lines
pub mod Reading
