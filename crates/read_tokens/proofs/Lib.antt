pub mod Runs
pub mod Values
pub mod Measured
pub mod Tokens
pub mod Chains
