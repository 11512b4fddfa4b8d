-- What rows span and that their reduced form is one; that the moves between the layouts change nothing; then how many filings can be New: each
-- takes a pivot, a column that a relation ends at takes none, and the d rows make relations.
pub mod Spans
pub mod FilingSpans
pub mod Uniqueness
pub mod OneReducedForm
pub mod SameOutcomes
pub mod SameCalls
pub mod Pivots
pub mod Relations
pub mod DRows
pub mod WastedColumns
pub mod RankBound
pub mod Ranks
