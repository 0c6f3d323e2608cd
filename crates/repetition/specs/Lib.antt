pub mod Repetition
pub mod RepetitionLaws
