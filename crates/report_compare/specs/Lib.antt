pub mod Agreement
pub mod LineViews
pub mod SaidLines
