pub mod Challenges
pub mod Choices
pub mod Given
pub mod Plans
pub mod Types
