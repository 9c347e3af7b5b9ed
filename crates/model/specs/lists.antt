-- What lists of definitions say: syntax, names, types, terms, typed rules.
pub mod Elaborated
pub mod Elaborates
pub mod Expansions
pub mod Formed
pub mod KnownJudge
pub mod KnownTypes
pub mod ListJudge
pub mod Names
pub mod Ranges
pub mod Setting
pub mod Signatures
pub mod Syntax
pub mod Tables
pub mod TermTable
pub mod TypeTable
pub mod Typings
pub mod Visitable
