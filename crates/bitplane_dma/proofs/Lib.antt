pub mod Addresses
pub mod Quiet
pub mod RuleLaws
pub mod Units
