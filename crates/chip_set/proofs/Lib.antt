pub mod AbleLaws
pub mod AskLaws
pub mod BlitLaws
pub mod ChipsLaws
pub mod ClxLaws
pub mod MadeLaws
pub mod TurnLaws
pub mod QuietLaws
mod WriteLaws
mod LateLaws
mod StartLaws
mod PartLaws
pub mod FetchLaws
pub mod BusLaws
pub mod AheadLaws
pub mod BesideLaws
