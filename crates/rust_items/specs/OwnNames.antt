-- The names that the code takes for itself.
use Rattle.std.specs.Prelude.{ℕ, Bool, false, ◌&&◌, ◌||◌, List, [], ◌∷◌, codes, drop, length, nat_eq}
use Rattle.std.specs.Char.{is_ascii_digit}
use Rattle.std.specs.List.{list_all, starts_with}
use Rattle.rust_items.specs.RustNames.{is_among}

-- digits, one at least
abbrev pub is_number : List ℕ → Bool
is_number [] = false
is_number (d ∷ ds) = is_ascii_digit d && list_all is_ascii_digit ds

-- a word and a number
abbrev pub is_numbered : List ℕ → List ℕ → Bool
is_numbered word name = starts_with nat_eq name word && is_number (drop (length word) name)

-- a variable or a parameter of the code: v5, arg0
abbrev pub is_variable : List ℕ → Bool
is_variable name = is_numbered (codes "v") name || is_numbered (codes "arg") name

-- the other values that it uses
abbrev pub own_values : List (List ℕ)
own_values = codes "ctx" ∷ codes "returns" ∷ codes "Some" ∷ codes "None" ∷ codes "MAX_ISLE_RETURNS" ∷ []

abbrev pub is_own_value : List ℕ → Bool
is_own_value name = is_among own_values name || is_variable name

-- the types, traits and crates that it uses
abbrev pub own_types : List (List ℕ)
own_types = codes "C" ∷ codes "Context" ∷ codes "ContextIter" ∷ codes "IntoContextIter" ∷ codes "ContextIterWrapper"
    ∷ codes "ConstructorVec" ∷ codes "Length" ∷ codes "Option" ∷ codes "Default" ∷ codes "Extend" ∷ codes "isle_alloc" ∷ []

-- a type may be a value of its name too
abbrev pub is_own_type : List ℕ → Bool
is_own_type name = is_among own_types name || is_own_value name
