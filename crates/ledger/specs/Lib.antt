pub mod Ledger
pub mod Runs
pub mod Promise
pub mod NewCard
