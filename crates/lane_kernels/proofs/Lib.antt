mod Blocks
mod Counts
mod Crowded
mod Columns
mod Words
pub mod Rows
