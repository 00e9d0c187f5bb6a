pub mod ScanLaws
pub mod StartLaws
