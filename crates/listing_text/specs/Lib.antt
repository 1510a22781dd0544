-- What the contracts of the writers cite beyond the rules.
pub mod Writing
pub mod Lines
