mod CallAnswers
mod RecoveredTexts
mod RustCode
mod SinkBytes
mod TaskStatuses
mod TermTexts
mod Texts
mod TextsRead
pub mod AllRead
pub mod CodeMade
