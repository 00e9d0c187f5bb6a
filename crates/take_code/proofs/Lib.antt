pub mod Ends
pub mod Then
