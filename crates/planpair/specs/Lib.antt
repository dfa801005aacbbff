pub mod Rates
pub mod Valid
pub mod Takeover
