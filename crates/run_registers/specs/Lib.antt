pub mod Registers
pub mod Devices
