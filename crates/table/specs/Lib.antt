pub mod Area
pub mod Check
pub mod Hash
pub mod Leading
pub mod Named
pub mod Padded
pub mod Remembered
pub mod SoundTable
