-- Places that are told apart, and what is told of them.
use Rattle.std.specs.Prelude.{◌≡◌, ℕ, Bool, List, map}
use Rattle.std.specs.Bool.{◌==◌}
use Rattle.model.specs.visits.Demands.{site_term_eq}
use Rattle.model_questions.specs.Formulas as M
use Rattle.model_questions.specs.Evaluated as E
use Rattle.spec_cases.specs.declared.formulas.Node.{Node}
use Rattle.spec_cases.specs.declared.places.Compared.{Compared}
use Rattle.spec_cases.specs.declared.places.Compared.TheVariants as C
use Rattle.spec_cases.specs.declared.known.Told.{Told}
use Rattle.spec_cases.specs.declared.known.Known.{Known}
use Rattle.spec_cases.specs.Namings.{Naming, Names}

-- no two numbers stand for one site
abbrev pub AreApart : Naming → Type 0
AreApart v = (s t : ℕ) → site_term_eq (v.site s) (v.site t) ≡ (s == t)

-- as Makes, where no two numbers stand for one site
abbrev pub MakesApart : List Node → List Node → (Naming → Type 0) → Type 0
MakesApart old new P = (v : Naming) → Names v new → AreApart v → Names v old × P v

-- whether two places are one: that is known, or it is so where those are that they are below of
abbrev pub are_same : Naming → Compared → Bool
are_same v (C.Known b) = b
are_same v (C.Below p q) = M.place_eq (v.place p.0) (v.place q.0)

module _ {X : Type 0} (v : Naming) where
  abbrev pub told : Told X → M.Place × X
  told t = (v.place t.place.0, t.is)

  abbrev pub told_each : List (Told X) → List (M.Place × X)
  told_each ts = map told ts

abbrev pub known_of : Naming → Known → E.Known
known_of v k = record { widths = told_each v k.widths.items; integers = told_each v k.integers.items; kinds = told_each v k.kinds.items }
