-- The laws that the proofs of the functions cite.
pub mod Moves
pub mod Counting
pub mod Cited
