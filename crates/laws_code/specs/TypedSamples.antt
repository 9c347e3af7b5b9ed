-- Sets of one rule that constrains by types, and near ones that don't: on the program of the samples of code, with a constant of
-- the enum, named 7, and one of numbers, named 8.
use Rattle.std.specs.Prelude.{◌∷◌, [], ℕ, pos, None}
use Rattle.model.specs.rules.Program.{Program}
use Rattle.model.specs.sites.Sites.{Constraint, is_int, is_prim, SetRule, SiteSet}
use Rattle.model_code.specs.Samples.{somewhere, sites, is_a}
use Rattle.model_code.specs.TypeSamples.{program}
use Rattle.laws_code.specs.TypedTrees.{ConstrainsByTypes}

abbrev pub with_constants : Program
with_constants = record program { constants = (7, 1) ∷ ((8, 2) ∷ []) }

abbrev pub a_rule : ℕ → Constraint → SetRule
a_rule s c = record {
  id = 0;
  at = somewhere;
  prio = pos 0;
  name = None;
  constraints = (s, c) ∷ [];
  classes = [];
  iterators = [];
  impure = [];
  result = 3;
}

abbrev pub asks : ℕ → Constraint → SiteSet
asks s c = record { rules = a_rule s c ∷ []; sites = sites }

-- of the argument, an E, or of its field x, a number
pub record ConstraintsAreJudged : Type 0 where
  pub a_variant : ConstrainsByTypes with_constants 0 (asks 0 is_a)
  pub a_literal : ConstrainsByTypes with_constants 0 (asks 1 (is_int (pos 5) 2))
  pub a_named_number : ConstrainsByTypes with_constants 0 (asks 1 (is_prim 8))
  pub a_named_enum : ConstrainsByTypes with_constants 0 (asks 0 (is_prim 7))
  -- no rule that is well typed asks a number to be a variant, or an enum to be a number
  pub a_variant_of_numbers : ConstrainsByTypes with_constants 0 (asks 1 is_a) → ⊥
  pub a_literal_of_the_enum : ConstrainsByTypes with_constants 0 (asks 0 (is_int (pos 5) 2)) → ⊥
