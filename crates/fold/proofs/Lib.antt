pub mod Folded
pub mod Heads
pub mod Judged
pub mod Sums
