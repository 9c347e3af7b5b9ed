-- What replies say of the text that they are read in.
use Rattle.std.specs.Prelude.{ℕ, ◌≡◌, ◌++◌, List, codes, vec_len, ⊤}
use Rattle.spec_questions.specs.declared.replies.Reply.{Reply}
use Rattle.spec_questions.specs.declared.replies.Reply.TheVariants as R

-- a text begins with these bytes
abbrev pub BeginsText : List ℕ → List ℕ → Type 0
BeginsText word text = (rest : List ℕ) × (text ≡ word ++ rest)

-- an answer is what a text begins with
abbrev pub IsSaidIn : List ℕ → Reply → Type 0
IsSaidIn text R.Unsat = BeginsText (codes "unsat") text
IsSaidIn text (R.Sat values) = BeginsText (codes "sat") text
IsSaidIn text (R.Other said) = ⊤

-- so many formulas have a value each, if any has
abbrev pub HasValues : ℕ → Reply → Type 0
HasValues count R.Unsat = ⊤
HasValues count (R.Sat values) = vec_len values ≡ count
HasValues count (R.Other said) = ⊤
