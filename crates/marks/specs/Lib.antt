pub mod Apart
pub mod Closings
pub mod LimitsKept
pub mod Numbers
pub mod OneShard
pub mod Opening
pub mod Plans
pub mod Seen
