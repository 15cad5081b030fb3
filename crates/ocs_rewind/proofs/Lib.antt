pub mod FrontLaws
pub mod RingLaws
