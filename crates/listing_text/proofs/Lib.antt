-- The laws that the writers' proofs cite, bottom first.
pub mod Writing
pub mod Promises
