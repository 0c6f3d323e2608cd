pub mod Ring
pub mod FiniteSum
pub mod Reindex
pub mod AllSymbols
pub mod Symbols
pub mod Weighed
pub mod Lists
