-- Optional values that are there, and one after another.
use Rattle.std.proofs.Common.{◌≡◌, true, Option, Some, is_some, ap, ◌∙◌, arith}
use Rattle.std.proofs.lemmas.Grind.{common_steps}
use Rattle.std.proofs.lemmas.Option.{none-some}
use Rattle.model.specs.rules.Outcome.{then_option}

pub is_there : {X : Type 0} (o : Option X) → is_some o ≡ true → (x : X) × (o ≡ Some x)
is_there o h = grind (arith, common_steps)

-- two that hold the same values are one
pub options_one : {X : Type 0} (o q : Option X) → ((x : X) → o ≡ Some x → q ≡ Some x) → ((x : X) → q ≡ Some x → o ≡ Some x) → o ≡ q
options_one o q f g = grind (arith, common_steps)

module _ {X Y : Type 0} where
  -- where both give something
  pub then_some : (o : Option X) (f : X → Option Y) (y : Y) → then_option o f ≡ Some y → (x : X) × (o ≡ Some x) × (f x ≡ Some y)
  then_some o f y e = grind (arith, common_steps, none-some)

  pub some_then : (o : Option X) (f : X → Option Y) (x : X) (y : Y) → o ≡ Some x → f x ≡ Some y → then_option o f ≡ Some y
  some_then o f x y e h = ap (λ u. then_option u f) e ∙ h

  pub then_same : (o q : Option X) (f g : X → Option Y) → o ≡ q → ((x : X) → f x ≡ g x) → then_option o f ≡ then_option q g
  then_same o q f g e h = grind (arith, common_steps)
