-- The laws that the proofs of the functions cite, bottom first.
pub mod Judgements
pub mod Checks
pub mod Pieces
pub mod Passes
