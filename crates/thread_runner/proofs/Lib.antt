pub mod Names
mod Voices
mod Noting
mod Places
mod Growing
mod Taking
mod Following
mod Counting
mod Carrying
mod Delivering
mod Each
mod Knowing
mod LiveSlots
mod Numbering
mod Lists
pub mod Keeping
