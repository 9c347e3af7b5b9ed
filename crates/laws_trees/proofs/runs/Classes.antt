-- Sites that tests have joined hold the same.
use Rattle.std.proofs.Common.{◌≡◌, ℕ, List, [], ◌∷◌, IsTrue, refl, sym, ap, ◌∙◌, eqb-true, arith}
use Rattle.std.proofs.lemmas.Grind.{common_steps}
use Rattle.model.specs.trees.Places.{class, joins}

-- f answers the same at both sites of each pair
abbrev pub SameAtPairs : {X : Type 0} → (ℕ → X) → List (ℕ × ℕ) → Type 0
SameAtPairs f [] = Unit {0}
SameAtPairs f (p ∷ ps) = (f p.0 ≡ f p.1) × SameAtPairs f ps

class_same : {X : Type 0} (f : ℕ → X) (ps : List (ℕ × ℕ)) → SameAtPairs f ps → (x : ℕ) → f (class ps x) ≡ f x
class_same f [] h x = refl
class_same f (p ∷ ps) h x = grind (arith, common_steps, class_same f ps h.1 p.1, class_same f ps h.1 p.0, class_same f ps h.1 x)

pub joined_same : {X : Type 0} (f : ℕ → X) (ps : List (ℕ × ℕ)) → SameAtPairs f ps → (a b : ℕ) → IsTrue (joins ps a b) → f a ≡ f b
joined_same f ps h a b j = sym (class_same f ps h a) ∙ ap f (eqb-true (class ps a) (class ps b) j) ∙ class_same f ps h b
