pub mod Chosen
pub mod Marked
pub mod Scheme
pub mod Sendable
pub mod VectorBlock
pub mod VectorFile
