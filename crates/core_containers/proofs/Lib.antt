mod Classes
mod Merges
mod Puts
mod Removals
mod Tables
mod Togethers
