pub mod WordsBack
