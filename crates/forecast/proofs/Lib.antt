-- The laws that the proofs of the functions cite.
pub mod Handing
pub mod Adding
pub mod Counting
