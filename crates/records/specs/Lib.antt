-- Lists of entry records.
pub mod Listed
