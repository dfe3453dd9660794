pub mod Answer
pub mod Referring
pub mod Replies
pub mod Tell
