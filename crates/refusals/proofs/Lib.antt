pub mod OneReason
