pub mod LineFacts
pub mod NodeFacts
pub mod SlotHalves
pub mod Standing
pub mod FaultAnswers
