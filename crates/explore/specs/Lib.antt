-- What the exploration's contracts cite beyond the rules, bottom first.
pub mod Index
pub mod Filing
pub mod Cells
pub mod Transitions
pub mod Effects
pub mod Exploring
pub mod Lending
