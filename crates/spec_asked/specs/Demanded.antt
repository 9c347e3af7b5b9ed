-- What a rule of a set demands, by the numbers of its sites.
use Rattle.std.specs.Prelude.{◌≡◌, ◌<◌, ℕ, Bool, true, ◌&&◌, List, ◌++◌, length, map, nat_lt, Some, Contains}
use Rattle.std.specs.List.{flat_map, list_all}
use Rattle.model.specs.sites.Sites.{Constraint, SetRule, Site, sources_at}
use Rattle.model.specs.trees.Places.{is_in, all_below, return_uses}
use Rattle.model.specs.trees.SetRuns.{tested_sites}
use Rattle.laws_specs.specs.SetConditions.{pairs_of}
use Rattle.spec_cases.specs.Steps.{constraint_view}
use Rattle.spec_steps.specs.declared.demands.Same.{Same}
use Rattle.spec_steps.specs.declared.demands.Tested.{Tested}
use Rattle.spec_asked.specs.Listed.{JoinAlike, with_classes}
use Rattle.spec_asked.specs.Marks.{marks}
use Rattle.spec_asked.specs.declared.demanded.RuleDemands.{RuleDemands}

abbrev pub test_numbers : List Tested → List (ℕ × Constraint)
test_numbers ts = map (λ t. (t.site, constraint_view t.constraint)) ts

abbrev pub same_numbers : List Same → List (ℕ × ℕ)
same_numbers ss = map (λ s. (s.first, s.second)) ss

-- numbers of sites, of which there are so many
abbrev pub tests_within : ℕ → List Tested → Bool
tests_within count ts = list_all (λ t. nat_lt t.site count) ts

abbrev pub sames_within : ℕ → List Same → Bool
sames_within count ss = list_all (λ s. nat_lt s.first count && nat_lt s.second count) ss

abbrev pub numbers_within : ℕ → List ℕ → Bool
numbers_within count ns = list_all (λ n. nat_lt n count) ns

abbrev pub are_within : ℕ → RuleDemands → Bool
are_within count d = tests_within count d.constraints.items && (sames_within count d.equalities.items && (numbers_within count d.impure.items && nat_lt d.result count))

-- what a rule speaks of: what it tests, calls impurely and gives
abbrev pub roots_of : SetRule → List ℕ
roots_of r = tested_sites r ++ return_uses (Some r)

-- what a site is made of has smaller numbers
abbrev pub SourcesFirst : List Site → Type 0
SourcesFirst sites = (s a : ℕ) → Contains (sources_at sites s) a → a < s

-- these are what a rule with these classes demands: tests, pairs of classes, impure calls and the result; and it makes all that is at or
-- below one of these
pub record AreListedDemands (sites : List Site) (r : SetRule) (classes : List (List ℕ)) (d : RuleDemands) : Type 0 where
  pub constraints : test_numbers d.constraints.items ≡ r.constraints
  pub equalities : same_numbers d.equalities.items ≡ flat_map pairs_of classes
  pub impure : d.impure.items ≡ r.impure
  pub result : d.result ≡ r.result
  pub made : SourcesFirst sites → (n : ℕ) → n < length sites → marks d.made.items n ≡ is_in n (all_below sites (roots_of (with_classes r classes)))

-- so of a rule, whose classes are listed in some order; and all are sites
pub record AreRuleDemands (sites : List Site) (r : SetRule) (d : RuleDemands) : Type 0 where
  pub classes : List (List ℕ)
  pub alike : JoinAlike classes r.classes
  pub listed : AreListedDemands sites r classes d
  pub within : are_within (length sites) d ≡ true
