pub mod NumberLaws
pub mod ChainLaws
