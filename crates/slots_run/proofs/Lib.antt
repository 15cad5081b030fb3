pub mod AnswerLaws
pub mod ClockLaws
pub mod LogLaws
pub mod OrderLaws
pub mod SlotRunLaws
pub mod TopLaws
