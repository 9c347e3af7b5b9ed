-- The shape of a list by its length and its items.
use Rattle.std.proofs.Common.{◌≡◌, ◌<◌, ◌≤◌, List, [], ◌∷◌, length, get_or, refl, sym, ap, ◌∙◌, arith}
use Rattle.spec_cases.specs.declared.formulas.Operand.{Operand}
use Rattle.spec_cases.specs.declared.shapes.Shape.TheVariants as S
use Rattle.spec_cases.specs.Shapes.{single_shape, pair_shape, triple_shape, shape_of}

pub shape_none : (l : List Operand) → length l < 1 → shape_of l ≡ S.Others
shape_none [] h = refl
shape_none (a ∷ l) h = absurd (omega arith)

pub shape_one : (l : List Operand) (a : Operand) → 1 ≤ length l → length l < 2 → a ≡ get_or l 0 a → shape_of l ≡ single_shape a
shape_one [] a h k e = absurd (omega arith)
shape_one (x ∷ []) a h k e = ap single_shape (sym e)
shape_one (x ∷ (y ∷ l)) a h k e = absurd (omega arith)

pub shape_two : (l : List Operand) (a b : Operand) → 2 ≤ length l → length l < 3 → a ≡ get_or l 0 a → b ≡ get_or l 1 b → shape_of l ≡ pair_shape a b
shape_two [] a b h k e f = absurd (omega arith)
shape_two (x ∷ []) a b h k e f = absurd (omega arith)
shape_two (x ∷ (y ∷ [])) a b h k e f = ap (λ p. pair_shape p y) (sym e) ∙ ap (pair_shape a) (sym f)
shape_two (x ∷ (y ∷ (z ∷ l))) a b h k e f = absurd (omega arith)

pub shape_three : (l : List Operand) (a b d : Operand) → 3 ≤ length l → length l < 4 → a ≡ get_or l 0 a → b ≡ get_or l 1 b → d ≡ get_or l 2 d → shape_of l ≡ triple_shape a b d
shape_three [] a b d h k e f g = absurd (omega arith)
shape_three (x ∷ []) a b d h k e f g = absurd (omega arith)
shape_three (x ∷ (y ∷ [])) a b d h k e f g = absurd (omega arith)
shape_three (x ∷ (y ∷ (z ∷ []))) a b d h k e f g = ap (λ p. triple_shape p y z) (sym e) ∙ ap (λ p. triple_shape a p z) (sym f) ∙ ap (triple_shape a b) (sym g)
shape_three (x ∷ (y ∷ (z ∷ (w ∷ l)))) a b d h k e f g = absurd (omega arith)

pub shape_many : (l : List Operand) → 4 ≤ length l → shape_of l ≡ S.Others
shape_many [] h = absurd (omega arith)
shape_many (x ∷ []) h = absurd (omega arith)
shape_many (x ∷ (y ∷ [])) h = absurd (omega arith)
shape_many (x ∷ (y ∷ (z ∷ []))) h = absurd (omega arith)
shape_many (x ∷ (y ∷ (z ∷ (w ∷ l)))) h = refl

pub ruleset shape_steps = (shape_none, shape_one, shape_two, shape_three, shape_many)
