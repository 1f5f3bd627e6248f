pub mod Compacts
pub mod Progress
pub mod Told
