pub mod Counted
pub mod Counting
pub mod Event
pub mod Layout
pub mod Results
pub mod Totals
pub mod Words
