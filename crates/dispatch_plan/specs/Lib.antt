pub mod Offers
pub mod Order
