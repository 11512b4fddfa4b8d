-- The definitions of `filing`: what a run reads and prints.
pub mod Input
