pub mod Crossing
mod CountedRings
mod Elsewhere
pub mod Ended
mod Frees
mod KeptSpans
mod KeyCalls
pub mod LentFolds
pub mod LentForgets
mod LentPages
pub mod Linking
mod Made
mod OneWord
pub mod SeatRings
mod Sending
mod SettledRings
mod TendedRings
