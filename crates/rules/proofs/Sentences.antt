-- Document 01, sentence by sentence.
pub mod Sentences
pub mod FieldSentences
pub mod FieldByPieces
pub mod RowSentences
pub mod SearchSentences
pub mod Unread
pub mod Operations
pub mod SampleRows
