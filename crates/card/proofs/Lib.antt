-- The laws of the card.
pub mod TextLaws
pub mod EntryLaws
pub mod LineLaws
pub mod ListLaws
pub mod ReadLaws
pub mod PutLaws
pub mod WriteLaws
pub mod Numbers
pub mod Lines
pub mod Order
pub mod Written
pub mod Readable
pub mod Longest
pub mod Places
pub mod Theorems
pub mod Examples
