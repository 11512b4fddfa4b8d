-- The definitions of `readback` (02, C-15). What a reader must believe: coefficients read out of a list of steps, and out of a printed listing.
-- They stand on those of `lines`, `listing`, `program`, `plan`, `field` and `lists`.
pub mod Recovery
pub mod Listings
-- What only serves the code: what is known of a text when its lines have been read once.
pub mod Scanned
