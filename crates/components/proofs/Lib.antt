-- The laws that the proofs of the functions cite.
pub mod Stores
pub mod Placed
pub mod Visits
pub mod Closings
pub mod Loops
pub mod InArrays
pub mod Turns
pub mod Walks
pub mod Reaches
pub mod Names
pub mod Marks
pub mod Fits
