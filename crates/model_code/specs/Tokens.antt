-- The tokens of generated code, each by what it names. Different tokens print differently where different things have
-- different names.
use Rattle.std.specs.Prelude.{ℕ, ℤ, Option}

-- keywords, punctuation, and names that are the same in all code
pub data Word : Type 0 where
  let_word mut_word ref_word if_word else_word match_word while_word return_word break_word : Word
  some_word none_word true_word false_word : Word
  -- `ctx`, `returns`, `extend`, `len`, `MAX_ISLE_RETURNS`, `clone`, `into_context_iter`, `next`, `unreachable!`
  ctx_word returns_word extend_word len_word most_word clone_word iter_word next_word unreachable_word : Word
  -- `( ) { } , : ; . .. _ =>`
  opening closing opening_brace closing_brace comma colon semicolon dot two_dots underscore arrow : Word
  -- `= == != >= & *`
  equals equal_to unlike at_least ampersand star : Word

-- what has fields
pub data Owner : Type 0 where
  variant_owner : (ty variant : ℕ) → Owner
  struct_owner : (ty : ℕ) → Owner

pub data Token : Type 0 where
  word : (w : Word) → Token
  -- v5, arg0, and the part .1 of a tuple
  variable_name : (v : ℕ) → Token
  parameter_name : (i : ℕ) → Token
  part_name : (i : ℕ) → Token
  -- an integer, and what stands behind its digits
  number : (z : ℤ) (ending : ℕ) → Token
  constant_name : (name : ℕ) → Token
  -- E::A or S, and the name of a field of that
  owner_name : (o : Owner) → Token
  field_name : (o : Owner) (i : ℕ) → Token
  -- C::f or constructor_f, and the list that the answers of a function from outside are put into, or those of another
  function_name : (f : ℕ) → Token
  list_name : (l : Option ℕ) → Token
  -- 'at12
  label_name : (n : ℕ) → Token
  -- the panic of a term that isn't partial, where no rule matched
  no_match : Token
