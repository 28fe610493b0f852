pub mod Flows
pub mod Prices
pub mod Cuts
pub mod Layers
pub mod Tests
pub mod Certificate
pub mod Facts
pub mod Cheaper
