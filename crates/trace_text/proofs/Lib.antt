pub mod Names
pub mod Bases
pub mod Digits
pub mod Ends
pub mod Heads
pub mod Forms
pub mod Tests
pub mod Verbs
pub mod Lines
pub mod Clips
pub mod Bindings
mod BoundAgain
mod Classed
pub mod Barriers
pub mod Knowing
pub mod Placing
pub mod Keeping
pub mod Texts
pub mod Exclusion
