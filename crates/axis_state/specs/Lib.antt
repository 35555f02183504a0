pub mod Diagram
pub mod States
pub mod Spells
pub mod GroupDiagram
