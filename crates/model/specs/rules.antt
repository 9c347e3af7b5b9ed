-- What typed rules mean: values, meanings, matching, right sides, choice, picks and bags.
pub mod CalledTerms
pub mod CallsNoMulti
pub mod Choice
pub mod Matching
pub mod Meaning
pub mod Outcome
pub mod Picks
pub mod Program
pub mod RightSide
pub mod Typed
pub mod Values
