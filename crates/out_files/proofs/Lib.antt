pub mod PixelsLaws
pub mod LinesLaws
pub mod WordsLaws
pub mod CreateLaws
mod PlacesLaws
pub mod FilesLaws
pub mod TogetherLaws
pub mod FlushLaws
pub mod GivesLaws
