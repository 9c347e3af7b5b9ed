mod BindSteps
mod ChoiceSteps
mod Entries
mod EnvSteps
mod ExprSteps
mod FieldSteps
mod PatternSteps
mod RunSteps
mod VarSteps
pub mod ContentSteps
pub mod ValueSteps
