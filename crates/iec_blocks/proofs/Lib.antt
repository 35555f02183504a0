pub mod PulseLemmas
pub mod BlockLemmas
pub mod NameLemmas
pub mod ValueLemmas
