pub mod IdOrder
pub mod UuidTexts
pub mod IdTexts
