-- Printed trees as pieces: lines of tokens, names by their numbers.
use Rattle.std.specs.Prelude.{ℕ, ℤ, Bool, List}
use Rattle.model.specs.lists.Syntax.{Position}

-- words that are the same in all trees; `none` is `_`, `equals` is `=`
pub data Word : Type 0 where
  bind_word match_word equal_word loop_word return_word : Word
  bool_word int_word prim_word arg_word extract_word call_word pick_word make_word some_word unwrap_word field_word part_word : Word
  of_word variant_word struct_word none equals : Word

pub data Token : Type 0 where
  word : (w : Word) → Token
  -- b5
  site : (s : ℕ) → Token
  -- true, 5, -5, #5
  truth : (b : Bool) → Token
  count : (n : ℕ) → Token
  integer : (z : ℤ) → Token
  instance : (n : ℕ) → Token
  -- f, T, T.A, ONE
  term_name : (term : ℕ) → Token
  type_name : (ty : ℕ) → Token
  variant_name : (ty variant : ℕ) → Token
  constant_name : (name : ℕ) → Token

-- what stands behind the tokens of a line: nothing; the colon of an arm; what is said of the rule that a return takes
pub data Ending : Type 0 where
  nothing colon : Ending
  comment : (at : Position) → Ending

-- a line, set in by so many spaces
pub data Line : Type 0 where
  line : (depth : ℕ) (tokens : List Token) (ending : Ending) → Line
