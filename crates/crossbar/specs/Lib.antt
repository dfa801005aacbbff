pub mod State
pub mod Valid
pub mod Start
pub mod Arrive
pub mod Load
pub mod FormerLoad
pub mod Takeover
pub mod Step
