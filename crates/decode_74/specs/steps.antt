pub mod Op74
pub mod Op76
pub mod Op7A
pub mod Op7E
