-- What the crate's contracts cite beyond the rules.
pub mod Figures
pub mod Cells
pub mod Forecasts
