-- Rules of sets and their conditions: one that is valid as that of its source rule is, ones that aren't, one that is valid below another
-- rule, and what a class asks.
use Rattle.std.specs.Prelude.{◌≡◌, ℕ, pos, [], ◌∷◌, None}
use Rattle.model.specs.rules.Typed.{TypedExpr}
use Rattle.model.specs.sites.Sites.{argument_site, constructor_site, int_site, is_variant, SetRule, SiteSet, SiteTerm, argument, constructor_call, no_site_term, site_term_and}
use Rattle.laws_specs.specs.Conditions.{IsValid}
use Rattle.laws_specs.specs.Samples.{x, adding, program_with, specs_with, doubled}
use Rattle.laws_specs.specs.SamplePriorities.{codes, code_specs}
use Rattle.laws_specs.specs.SetConditions.{set_condition, IsValidBelowInSet}

-- a rule that tests nothing and gives a site
abbrev pub giving : ℕ → SetRule
giving s = record {
  id = 0;
  at = record { file = 0; offset = 9 };
  prio = pos 0;
  name = None;
  constraints = [];
  classes = [];
  iterators = [];
  impure = [];
  result = s;
}

-- the set of (rule (twice x) (add x x)): an argument, and the call that takes it twice
abbrev pub sums_set : SiteSet
sums_set = record { rules = giving 1 ∷ []; sites = argument_site 0 ∷ (constructor_site 1 (0 ∷ (0 ∷ [])) 0 ∷ []) }

abbrev pub sum_of_two : SiteTerm
sum_of_two = constructor_call 1 (site_term_and (argument 0) (site_term_and (argument 0) no_site_term)) 0

abbrev pub IsRightInSet : TypedExpr → SetRule → Type 0
IsRightInSet rhs r = IsValid (program_with rhs) (specs_with (doubled ∷ []) [] []) (set_condition 0 sums_set r)

-- the set of (rule 1 (code (Letter.A)) 10), (rule 0 (code _) 20): an argument, and what they give
abbrev pub a_in_set : SetRule
a_in_set = record (giving 1) { prio = pos 1; constraints = (0, is_variant 2 0 0) ∷ [] }

abbrev pub others_in_set : SetRule
others_in_set = giving 2

abbrev pub codes_set : SiteSet
codes_set = record { rules = a_in_set ∷ (others_in_set ∷ []); sites = argument_site 0 ∷ (int_site (pos 10) 1 ∷ (int_site (pos 20) 1 ∷ [])) }

-- the call is twice the argument, and the argument alone isn't; of a class each pair is asked to be equal; and the lower rule alone is
-- wrong of A, but right where the one above it doesn't match
pub record SetsAreAsked : Type 0 where
  pub sum : IsRightInSet (adding x x) (giving 1)
  pub alone : IsRightInSet x (giving 0) → ⊥
  pub class : (set_condition 0 sums_set (record (giving 1) { classes = (0 ∷ (1 ∷ [])) ∷ [] })).equalities ≡ (argument 0, sum_of_two) ∷ ((sum_of_two, argument 0) ∷ [])
  pub lower_alone : IsValid codes code_specs (set_condition 2 codes_set others_in_set) → ⊥
  pub lower_below : IsValidBelowInSet codes code_specs 2 codes_set others_in_set
