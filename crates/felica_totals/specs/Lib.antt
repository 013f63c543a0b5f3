-- The totals of a listing.
pub mod Count
