-- Ways through trees, and laws on them; rules that meet no other.
pub mod DeadReturns
pub mod IdlePriorities
