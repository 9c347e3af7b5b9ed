mod EchoSteps
mod EchoedTerms
mod EchoesApart
mod EchoesFit
mod OutcomeSteps
mod RunTexts
