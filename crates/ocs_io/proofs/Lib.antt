pub mod NumberLaws
pub mod TextLaws
pub mod MapLaws
pub mod KeptLaws
pub mod ShelfLaws
pub mod SureShelfLaws
pub mod FolderLaws
pub mod WholeLaws
