pub mod SplitLemmas
pub mod LayoutLemmas
pub mod OccurrenceLemmas
pub mod AnyLemmas
pub mod LineLemmas
pub mod FileLemmas
