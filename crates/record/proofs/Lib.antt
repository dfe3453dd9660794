pub mod Alike
pub mod OneSet
pub mod Places
pub mod Sound
pub mod Tests
