pub mod Answers
pub mod Decide
pub mod DeedFits
pub mod Deeds
pub mod Plans
pub mod Rules
