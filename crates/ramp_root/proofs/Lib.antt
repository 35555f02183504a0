pub mod SumLemmas
pub mod RootLemmas
pub mod ReachCounts
