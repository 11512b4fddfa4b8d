-- The definitions of `program` (01, "The written program", "Running it" and "Turned down"). They stand on those of `plan`, `field` and
-- `lists`.

-- What a reader must believe: step lists and their run, the written program, and the calls.
pub mod Steps
pub mod Layout
pub mod Calls
-- What only serves the code: contracts of inner functions cite it, and no call's contract does.
pub mod Placed
pub mod Reading
