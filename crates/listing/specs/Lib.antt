-- The definitions of `listing` (01, "Worst norm" and "The filing program", 02, C-14): the worst norm and its call, decimal numbers, and what
-- is printed. A reader must believe each of them. They stand on those of `program`, `plan`, `field` and `lists`.
pub mod Norm
pub mod Decimal
pub mod Printed
-- What only serves the code: what a printer does.
pub mod Printing
