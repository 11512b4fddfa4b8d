-- The theory of `lines`: strings cut and put together, words, digits, numbers, lines, and the list that a line is read into. `Quotes` serves facts
-- about texts.
pub mod Cuts
pub mod WordLaws
pub mod DigitLaws
pub mod NumeralLaws
pub mod LineLaws
pub mod Filling
pub mod Quotes
