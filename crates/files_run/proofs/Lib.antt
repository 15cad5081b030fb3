pub mod AudioLaws
pub mod CrewLaws
pub mod FaultLaws
pub mod KeptLaws
pub mod RunLaws
pub mod GrowthLaws
pub mod PrefixLaws
