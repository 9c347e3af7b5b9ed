-- What a rule of greater priority asks that another one doesn't.
use Rattle.std.specs.Prelude.{◌≡◌, ◌<◌, ◌<ℤ◌, ℕ, Bool, false, not, List, length, map, All, Contains}
use Rattle.model.specs.rules.Program.{Program}
use Rattle.model.specs.sites.Sites.{Constraint, SetRule, SiteSet, unfold_site}
use Rattle.model.specs.trees.Judge.{is_that}
use Rattle.model.specs.trees.Places.{constraint_at, joins_in}
use Rattle.laws_specs.specs.Conditions.{Condition}
use Rattle.laws_specs.specs.SetConditions.{set_condition}
use Rattle.laws_specs.specs.Specs.{Specs}
use Rattle.laws_questions.specs.BelowLaws.{ExcludesOne}
use Rattle.core_rule_sets.specs.declared.trie_again.Rule.{Rule}
use Rattle.core_rule_sets.specs.SiteViews.{set_rule_view}
use Rattle.spec_cases.specs.declared.formulas.Fact.{Fact}
use Rattle.spec_cases.specs.Namings.{Naming, fact_of}

-- a test that isn't among these
abbrev pub is_other : List (ℕ × Constraint) → ℕ × Constraint → Bool
is_other own d = not (is_that (constraint_at own d.0) d.1)

-- a rule of greater priority that asks for no equal sites
pub record IsPlainAbove (below above : SetRule) : Type 0 where
  pub above_it : below.prio <ℤ above.prio
  pub apart : (a b : ℕ) → joins_in above.classes a b ≡ false

-- a condition is that of a rule of a set, whose sites numbers stand for
pub record IsOfRule (v : Naming) (c : Condition) (t : ℕ) (set : SiteSet) (r : SetRule) (rule : SetRule) (count : ℕ) : Type 0 where
  pub same : c ≡ set_condition t set r
  pub constraints : r.constraints ≡ rule.constraints
  pub prio : r.prio ≡ rule.prio
  pub sites : (n : ℕ) → n < count → v.site n ≡ unfold_site set.sites n

-- rules are among those of a set
abbrev pub AreOfSet : List Rule → SiteSet → Type 0
AreOfSet rules set = (q : Rule) → Contains rules q → Contains set.rules (set_rule_view q)

-- facts exclude rules of a set
abbrev pub AreExcluding : Program → Specs → ℕ → SiteSet → SetRule → Naming → List Fact → Type 0
AreExcluding p specs t set r v fs = All (ExcludesOne p specs t set r) (map (fact_of v) fs)
