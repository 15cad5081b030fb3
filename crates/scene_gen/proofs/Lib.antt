pub mod Growth
pub mod BlockLaws
pub mod ImageLaws
pub mod ScriptLaws
