pub mod SplitLaws
pub mod EventLaws
pub mod BodyLaws
pub mod FrameLaws
pub mod RunnableLaws
pub mod PrintLaws
pub mod RoundTrip
