pub mod Alike
pub mod Shown
