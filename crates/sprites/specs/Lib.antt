pub mod SpriteValue
pub mod SpriteFront
