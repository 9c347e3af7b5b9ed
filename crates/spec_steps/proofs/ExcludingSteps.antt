-- Steps of what excludes rules.
use Rattle.std.proofs.Common.{◌≡◌, ◌≤◌, ◌-◌, List, [], ◌∷◌, Option, Some, None, drop, get_or, is_some, length, take, refl, ap, arith}
use Rattle.std.proofs.lemmas.List.{take_all}
use Rattle.core_types.specs.declared.ids.TypeId.{TypeId}
use Rattle.laws_questions.specs.BelowLaws.{met_fact}
use Rattle.laws_specs.specs.Conditions.{Condition}
use Rattle.laws_specs.specs.Specs.{Specs}
use Rattle.model.specs.rules.Program.{Program}
use Rattle.model_questions.specs.Formulas.{both_of}
use Rattle.spec_cases.specs.Namings.{Naming}
use Rattle.spec_cases.specs.Steps.{constraint_view}
use Rattle.spec_steps.specs.declared.demands.Tested.{Tested}
use Rattle.spec_steps.specs.Demands.{tested_views}
use Rattle.spec_steps.specs.Excluding.{all_met}
use Rattle.spec_steps.specs.Typing.{type_number}

-- a type is there where its number is
pub type_there : (o : Option TypeId) → is_some o ≡ is_some (type_number o)
type_there None = refl
type_there (Some ty) = refl

-- one test before others
pub met_first : (v : Naming) (p : Program) (specs : Specs) (c : Condition) (l : List Tested) (d : Tested) → 1 ≤ length l
    → both_of (met_fact p specs c (v.site (get_or l 0 d).site) (constraint_view (get_or l 0 d).constraint)) (all_met p specs c (tested_views v (take (length l - 1) (drop 1 l)))) ≡ all_met p specs c (tested_views v l)
met_first v p specs c [] d h = absurd (omega arith)
met_first v p specs c (t ∷ l) d h =
    ap (λ r. both_of (met_fact p specs c (v.site t.site) (constraint_view t.constraint)) (all_met p specs c (tested_views v r))) (take_all (length (t ∷ l) - 1) l (omega arith))
