pub mod FitLaws
pub mod QuietLaws
