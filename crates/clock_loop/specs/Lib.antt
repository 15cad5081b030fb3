pub mod code
pub mod RunTo
