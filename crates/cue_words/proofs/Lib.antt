mod Numerals
mod ObjectRead
mod Whole
