pub mod ClockLaws
pub mod PlaceLaws
pub mod PresentLaws
pub mod BackLaws
pub mod LineLaws
pub mod GoLaws
