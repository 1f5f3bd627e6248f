pub mod Job
pub mod Naming
pub mod Sentences
pub mod Store
pub mod Telling
