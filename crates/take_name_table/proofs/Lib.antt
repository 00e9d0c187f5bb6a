pub mod Tests
pub mod Spots
pub mod Leaves
pub mod Looks
pub mod Fronts
pub mod Growth
