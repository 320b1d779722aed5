pub mod Places
pub mod Tokens
pub mod TokenViews
pub mod PieceViews
pub mod Readings
pub mod Remaining
pub mod Laws
