mod Entries
mod OwnConstants
