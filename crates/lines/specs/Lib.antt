-- The definitions of `lines`. What a reader must believe: what a line of numbers is.
pub mod Lines
-- What only serves the code: the words of a line from a place on, and how a line is read.
pub mod Words
