pub mod Event
pub mod Run
pub mod Flow
pub mod Promise
pub mod Plans
