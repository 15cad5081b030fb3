pub mod FitLaws
pub mod SoundLaws
pub mod QuietLaws
