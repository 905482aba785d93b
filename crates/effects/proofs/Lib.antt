pub mod SpentWords
