-- The laws that the proofs of the functions cite.
pub mod Folds
pub mod Chains
pub mod Alike
pub mod FilingLaws
pub mod Steps
pub mod Rounds
pub mod Answers
pub mod LendingLaws
