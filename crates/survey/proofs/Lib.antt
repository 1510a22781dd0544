-- The laws that the proofs of the functions cite.
pub mod Laying
pub mod Promises
pub mod Surveying
pub mod Tables
