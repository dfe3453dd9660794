pub mod Call
pub mod Insertion
pub mod Knowing
pub mod Peers
pub mod Place
pub mod Saying
pub mod Shown
