pub mod Fields
pub mod HeaderBlock
pub mod Networks
pub mod RecordBlock
pub mod Sets
