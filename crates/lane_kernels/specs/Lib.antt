pub mod Disjoint
pub mod Planes
pub mod Rows
