pub mod KindNameLaws
pub mod EveryKind
pub mod NameLemmas
pub mod CountLemmas
