mod Arguments
mod Breaches
mod Broken
mod Callees
mod Changing
mod ConverterSteps
mod Declaring
mod ErrorSteps
mod ExternSteps
mod Finding
mod FirstOfTerm
mod GroupSteps
mod KindChanges
mod Making
mod Marks
mod ReadTerms
mod Recursion
mod RootSteps
mod Rooting
mod TemplateNames
mod TemplateParts
mod TemplateSteps
mod TermMaps
pub mod NotedPositions
pub mod TypesStaying
