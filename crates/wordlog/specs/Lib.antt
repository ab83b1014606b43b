pub mod Calls
pub mod Kinds
pub mod Reading
pub mod Log
pub mod Writing
pub mod Bytes
