-- How the things that code speaks of are written: what the term gives, and what the program declares.
use Rattle.std.specs.Prelude.{ℕ, Bool, Option}
use Rattle.model_code.specs.Tokens.{Owner}

-- a value, a value or nothing, or a list of values
pub data ReturnForm : Type 0 where
  gives_one gives_option gives_many : ReturnForm

-- how fields are written: not at all, with names, or in order
pub data Shape : Type 0 where
  no_fields : Shape
  named_fields : (n : ℕ) → Shape
  unnamed_fields : (n : ℕ) → Shape

-- a function of a term that code calls
pub data Callee : Type 0 where
  extractor_of : (term : ℕ) → Callee
  constructor_of : (term : ℕ) → Callee

pub record Notation : Type 0 where
  pub kind : ReturnForm
  -- whether the log is told which rule is taken
  pub is_logged : Bool
  pub shape : Owner → Shape
  -- whether a field, a constant, and the answer of a call is an enum or a struct
  pub is_field_composed : Owner → ℕ → Bool
  pub is_constant_composed : ℕ → Bool
  pub gives_composed : Callee → Bool
  pub has_many : Callee → Bool
  -- the numbers of names: of a function, of the list for its answers where the function comes from outside, and of what stands
  -- behind the digits of a type's integers. Two terms may be one function.
  pub function : Callee → ℕ
  pub list : Callee → Option ℕ
  pub ending : ℕ → ℕ
