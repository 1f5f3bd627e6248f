pub mod Copied
pub mod Padded
pub mod Words
pub mod Zeros
