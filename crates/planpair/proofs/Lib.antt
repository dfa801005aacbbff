pub mod RateLaws
pub mod OwnedLaws
pub mod ValidLaws
pub mod TakeoverLaws
