pub mod PlaceTexts
pub mod Reports
pub mod TreeTexts
