-- What the judges' contracts cite beyond the rules, bottom first.
pub mod Judgements
pub mod Parts
pub mod Passes
pub mod Sums
