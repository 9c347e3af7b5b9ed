-- What isn't shown of code isn't in its tokens.
use Rattle.std.specs.Prelude.{◌≡◌, ℕ, Bool, Option}
use Rattle.model_code.specs.Code.{Block}
use Rattle.model_code.specs.Notation.{Notation, Callee, extractor_of, constructor_of}
use Rattle.model_code.specs.Written.{code_tokens, shown_code}

abbrev pub term_of : Callee → ℕ
term_of (extractor_of term) = term
term_of (constructor_of term) = term

-- what is written of a function, by its name's number
pub record IsByName (p : Notation) (many_of composed_of : ℕ → Bool) (list_of : ℕ → Option ℕ) : Type 0 where
  pub many : (f : Callee) → p.has_many f ≡ many_of (p.function f)
  pub composed : (f : Callee) → p.gives_composed f ≡ composed_of (p.function f)
  pub list : (f : Callee) → p.list f ≡ list_of (p.function f)

-- where terms that are one function are written alike, code that is shown alike is
abbrev pub ShownIsAll : Type 0
ShownIsAll =
    (p : Notation) (many_of composed_of : ℕ → Bool) (list_of : ℕ → Option ℕ) → IsByName p many_of composed_of list_of → (a b : Block) → shown_code p a ≡ shown_code p b
    → code_tokens p a ≡ code_tokens p b
