pub mod FaultLaws
pub mod InputLaws
pub mod TextLaws
pub mod VerdictLaws
