-- What the exported contracts cite beyond those of the calls.
pub mod Results
