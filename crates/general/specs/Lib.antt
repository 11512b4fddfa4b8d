-- Which plans suit every table.
pub mod Suits
