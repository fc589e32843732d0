pub mod ExpandedTexts
mod Pieces
mod Words
