pub mod FoundWords
