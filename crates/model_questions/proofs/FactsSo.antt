-- Facts without what changes nothing are so exactly where the facts are.
use Rattle.std.proofs.Common.{◌≡◌, Bool, true, false, not, ◌&&◌, ◌||◌, sym, ap, ◌∙◌, arith}
use Rattle.std.proofs.lemmas.Grind.{common_steps}
use Rattle.std.proofs.lemmas.Bool.{and_parts, and_from}
use Rattle.model.proofs.Elements.{or_left, or_right}
use Rattle.model_questions.specs.Formulas.{Fact, Model, is_so, and_last, both_of, or_last, one_of, none_of}

and_false : (b : Bool) → false ≡ (b && false)
and_false b = grind (arith, common_steps)

pub or_false : (b : Bool) → b ≡ (b || false)
or_false b = grind (arith, common_steps)

module _ (m : Model) where
  last_so : (a b : Fact) → is_so m (and_last a b) ≡ (is_so m a && is_so m b)
  last_so a b = grind (arith, common_steps, and_false)

  pub both_so : (a b : Fact) → is_so m (both_of a b) ≡ (is_so m a && is_so m b)
  both_so a b = grind (arith, common_steps, last_so)

  or_last_so : (a b : Fact) → is_so m (or_last a b) ≡ (is_so m a || is_so m b)
  or_last_so a b = grind (arith, common_steps, or_false)

  pub one_so : (a b : Fact) → is_so m (one_of a b) ≡ (is_so m a || is_so m b)
  one_so a b = grind (arith, common_steps, or_last_so)

  pub none_so : (a : Fact) → is_so m (none_of a) ≡ not (is_so m a)
  none_so a = grind (arith, common_steps)

  pub both_from : (a b : Fact) → is_so m a ≡ true → is_so m b ≡ true → is_so m (both_of a b) ≡ true
  both_from a b p q = both_so a b ∙ and_from (is_so m a) (is_so m b) p q

  pub both_parts : (a b : Fact) → is_so m (both_of a b) ≡ true → (is_so m a ≡ true) × (is_so m b ≡ true)
  both_parts a b e = and_parts (is_so m a) (is_so m b) (sym (both_so a b) ∙ e)

  pub one_left : (a b : Fact) → is_so m a ≡ true → is_so m (one_of a b) ≡ true
  one_left a b p = one_so a b ∙ or_left (is_so m a) (is_so m b) p

  pub one_right : (a b : Fact) → is_so m b ≡ true → is_so m (one_of a b) ≡ true
  one_right a b p = one_so a b ∙ or_right (is_so m a) (is_so m b) p

  pub none_from : (a : Fact) → is_so m a ≡ false → is_so m (none_of a) ≡ true
  none_from a e = none_so a ∙ ap not e
