-- The laws of blocks.
pub mod Ranges
pub mod Ways
pub mod Placed
pub mod Numbering
pub mod Rank
pub mod Arranged
pub mod Tables
pub mod Listings
pub mod ReachTables
pub mod Handed
pub mod FirstPartners
