pub mod Plain
pub mod PairWords
pub mod Heads
pub mod Accepted
pub mod Completeness
pub mod Records
pub mod Words
pub mod Numbers
