pub mod Question
pub mod Answers
pub mod Runs
