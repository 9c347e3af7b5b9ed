pub mod TypesAfterRefusal
