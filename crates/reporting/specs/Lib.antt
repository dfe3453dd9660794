pub mod Counts
pub mod Pieces
pub mod Report
pub mod Row
pub mod Run
