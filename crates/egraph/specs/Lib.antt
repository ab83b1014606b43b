pub mod Table
pub mod Records
pub mod GivensUnder
pub mod View
pub mod Filing
pub mod SimplePath
pub mod Graph
