-- What is read of a trace: its rules, where its records stand, and what each says.
pub mod RuleNumbers
pub mod Rules
pub mod Items
pub mod InputFields
pub mod Inputs
pub mod Events
pub mod RowFields
pub mod Rows
pub mod SoFar
pub mod Kinds
pub mod Reading
pub mod Holding
