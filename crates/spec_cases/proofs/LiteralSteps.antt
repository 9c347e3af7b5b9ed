-- What is written of operands, and the shapes of literals.
use Rattle.std.proofs.Common.{◌≡◌, ℕ, ◌<◌, ◌≤◌, List, [], ◌∷◌, length, get_or, false, None, refl, sym, ap, ◌∙◌, arith}
use Rattle.std.proofs.lemmas.Bool.{false≢true}
use Rattle.model_questions.specs.Formulas as M
use Rattle.model_questions.specs.Evaluated as E
use Rattle.spec_cases.specs.declared.literals.Literal.{Literal}
use Rattle.spec_cases.specs.declared.literals.LiteralShape.TheVariants as S
use Rattle.spec_cases.specs.Literals.{single_literal, pair_literal, triple_literal, literal_shape}
use Rattle.spec_cases.specs.Namings.{Naming, is_plain_word, is_plain_integer, is_plain_fact}

-- what is made of others isn't written
fact_other : (f : M.Fact) (rest : M.Operands) → is_plain_fact f ≡ false → E.literals (M.fact_and f rest) ≡ None
fact_other (M.known b) rest h = absurd (false≢true (sym h))
fact_other (M.truth_at at) rest h = absurd (false≢true (sym h))
fact_other (M.as_wide at w) rest h = absurd (false≢true (sym h))
fact_other (M.is_kind at i) rest h = absurd (false≢true (sym h))
fact_other (M.fact_by o of) rest h = refl
fact_other (M.fact_answered f of) rest h = refl
fact_other (M.both_facts a b) rest h = refl
fact_other (M.one_fact a b) rest h = refl
fact_other (M.no_fact a) rest h = refl
fact_other (M.same_facts a b) rest h = refl

integer_other : (z : M.Integer) (rest : M.Operands) → is_plain_integer z ≡ false → E.literals (M.integer_and z rest) ≡ None
integer_other (M.written_integer z) rest h = absurd (false≢true (sym h))
integer_other (M.integer_at at) rest h = absurd (false≢true (sym h))
integer_other (M.integer_by o of) rest h = refl
integer_other (M.integer_answered f of) rest h = refl
integer_other (M.either_integer f a b) rest h = refl

word_other : (w : ℕ) (t : M.Word) (rest : M.Operands) → is_plain_word t ≡ false → E.literals (M.word_and w t rest) ≡ None
word_other w (M.written n) rest h = absurd (false≢true (sym h))
word_other w (M.word_at at x) rest h = absurd (false≢true (sym h))
word_other w (M.word_by o of) rest h = refl
word_other w (M.word_answered f of) rest h = refl
word_other w (M.either_word f a b) rest h = refl

module _ (v : Naming) where
  pub fact_made : (n : ℕ) (rest : M.Operands) → E.literals (M.fact_and (v.fact n) rest) ≡ None
  fact_made n rest = fact_other (v.fact n) rest (v.made_facts n)

  pub integer_made : (n : ℕ) (rest : M.Operands) → E.literals (M.integer_and (v.integer n) rest) ≡ None
  integer_made n rest = integer_other (v.integer n) rest (v.made_integers n)

  pub word_made : (n w : ℕ) (rest : M.Operands) → E.literals (M.word_and w (v.word n) rest) ≡ None
  word_made n w rest = word_other w (v.word n) rest (v.made_words n)

pub ruleset made_steps = (fact_made, integer_made, word_made)

-- shapes
pub literal_none : (l : List Literal) → length l < 1 → literal_shape l ≡ S.Others
literal_none [] h = refl
literal_none (a ∷ l) h = absurd (omega arith)

pub literal_one : (l : List Literal) (a : Literal) → 1 ≤ length l → length l < 2 → a ≡ get_or l 0 a → literal_shape l ≡ single_literal a
literal_one [] a h k e = absurd (omega arith)
literal_one (x ∷ []) a h k e = ap single_literal (sym e)
literal_one (x ∷ (y ∷ l)) a h k e = absurd (omega arith)

pub literal_two : (l : List Literal) (a b : Literal) → 2 ≤ length l → length l < 3 → a ≡ get_or l 0 a → b ≡ get_or l 1 b → literal_shape l ≡ pair_literal a b
literal_two [] a b h k e f = absurd (omega arith)
literal_two (x ∷ []) a b h k e f = absurd (omega arith)
literal_two (x ∷ (y ∷ [])) a b h k e f = ap (λ p. pair_literal p y) (sym e) ∙ ap (pair_literal a) (sym f)
literal_two (x ∷ (y ∷ (z ∷ l))) a b h k e f = absurd (omega arith)

pub literal_three : (l : List Literal) (a b d : Literal) → 3 ≤ length l → length l < 4 → a ≡ get_or l 0 a → b ≡ get_or l 1 b → d ≡ get_or l 2 d → literal_shape l ≡ triple_literal a b d
literal_three [] a b d h k e f g = absurd (omega arith)
literal_three (x ∷ []) a b d h k e f g = absurd (omega arith)
literal_three (x ∷ (y ∷ [])) a b d h k e f g = absurd (omega arith)
literal_three (x ∷ (y ∷ (z ∷ []))) a b d h k e f g = ap (λ p. triple_literal p y z) (sym e) ∙ ap (λ p. triple_literal a p z) (sym f) ∙ ap (triple_literal a b) (sym g)
literal_three (x ∷ (y ∷ (z ∷ (w ∷ l)))) a b d h k e f g = absurd (omega arith)

pub literal_many : (l : List Literal) → 4 ≤ length l → literal_shape l ≡ S.Others
literal_many [] h = absurd (omega arith)
literal_many (x ∷ []) h = absurd (omega arith)
literal_many (x ∷ (y ∷ [])) h = absurd (omega arith)
literal_many (x ∷ (y ∷ (z ∷ []))) h = absurd (omega arith)
literal_many (x ∷ (y ∷ (z ∷ (w ∷ l)))) h = refl

pub ruleset literal_shapes = (literal_none, literal_one, literal_two, literal_three, literal_many)
