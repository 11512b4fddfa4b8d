-- The definitions of `lists`: finite sums, the largest of numbers, lists by place, a list with others written over it, tests of every place,
-- and one of two lists. They stand on the standard library alone and render no document. All of them are what a reader must believe: every
-- specification above is written in them.
pub mod Places
