pub mod FlowLaws
pub mod LoopLaws
pub mod CountLaws
pub mod MoveLaws
pub mod SendLaws
pub mod NameLaws
pub mod SlotLaws
pub mod ValidLaws
