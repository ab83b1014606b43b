pub mod Running
pub mod SeenOtherwise
pub mod LastClosed
