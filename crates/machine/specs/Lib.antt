pub mod Ahead
pub mod Machine
pub mod MachineSteps
pub mod Quiet
