-- The laws that the proofs of the functions cite.
pub mod RowKeys
pub mod CellCodes
pub mod Coding
pub mod Unpacking
pub mod Clearing
pub mod Encoding
pub mod Promises
