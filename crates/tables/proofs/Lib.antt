-- The laws that the proofs of the functions cite.
pub mod Checks
pub mod Refused
pub mod Cells
