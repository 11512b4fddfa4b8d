-- What the exported calls leave in the numbers that they are lent, from the answers of the calls below (01, "Turned down"). They
-- stand on `plan`.
pub mod Numbers
