pub mod Lines
pub mod SaidTexts
