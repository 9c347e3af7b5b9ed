-- Numbers of rules by what they ask of one site.
use Rattle.std.specs.Prelude.{◌≡◌, ℕ, Bool, false, List, Contains, Option, None, Some, MatchOption, option_map, slice_get}
use Rattle.std.specs.BTreeMap.{BTreeMap, get}
use Rattle.std.specs.Global.{Vec}
use Rattle.std.specs.List.{list_any}
use Rattle.model.specs.trees.Places.{constraint_at}
use Rattle.core_rule_sets.specs.Endings.{items_of}
use Rattle.core_rule_sets.specs.SiteViews.{constraint_view, set_rule_view}
use Rattle.core_rule_sets.specs.contracts.trie_again.ConstraintOrd.TheImpl.{ghosts}
use Rattle.core_rule_sets.specs.declared.trie_again.Constraint.{Constraint}
use Rattle.core_rule_sets.specs.declared.trie_again.Rule.{Rule}
use Rattle.report_warnings.specs.declared.priorities.Groups.{Groups}
use Rattle.report_warnings.specs.declared.priorities.TwoGroups.{TwoGroups}
use Rattle.laws_ways.specs.IdlePriorities.{may_meet}

-- the numbers of the rules that ask this
abbrev pub numbers_asking : BTreeMap Constraint (Vec ℕ) → Constraint → List ℕ
numbers_asking m asked = items_of (get ghosts.cmp m asked)

-- a rule asks this of a site, or nothing
abbrev pub Asks : ℕ → Rule → Option Constraint → Type 0
Asks site rule asked = option_map constraint_view asked ≡ constraint_at (set_rule_view rule).constraints site

-- where the number of a rule that asks this, or nothing, is listed
abbrev pub listed_with : Groups → Option Constraint → List ℕ
listed_with g None = g.bare.items
listed_with g (Some asked) = numbers_asking g.asking asked

-- each rule stands with those that ask the same
abbrev pub AreGrouped : List Rule → Groups → Type 0
AreGrouped rules g = (n : ℕ) (r : Rule) (asked : Option Constraint) → slice_get rules n ≡ Some r → Asks g.site r asked → Contains (listed_with g asked) n

-- likewise those of some numbers
abbrev pub AreGroupedAmong : List ℕ → List Rule → Groups → Type 0
AreGroupedAmong ns rules g = (n : ℕ) (r : Rule) (asked : Option Constraint) → Contains ns n → slice_get rules n ≡ Some r → Asks g.site r asked → Contains (listed_with g asked) n

-- rules by one site, and those that ask nothing there by another one
pub record AreGroupedTwice (rules : List Rule) (g : TwoGroups) : Type 0 where
  pub outer : AreGrouped rules g.outer
  pub inner : AreGroupedAmong g.outer.bare.items rules g.inner

-- the number of a rule is listed with what it asks, and no number is lost
pub record AddsNumber (rule : Rule) (n : ℕ) (old new : Groups) : Type 0 where
  pub site : new.site ≡ old.site
  pub here : (asked : Option Constraint) → Asks old.site rule asked → Contains (listed_with new asked) n
  pub kept : (asked : Option Constraint) (m : ℕ) → Contains (listed_with old asked) m → Contains (listed_with new asked) m

-- so is the rule of a number, if there is one
abbrev pub AddsIfThere : List Rule → ℕ → Groups → Groups → Type 0
AddsIfThere rules n old new = MatchOption (slice_get rules n) (new ≡ old) (λ rule. AddsNumber rule n old new)

-- a rule overlaps the one of a number
abbrev pub meets_number : List Rule → Rule → ℕ → Bool
meets_number rules rule n = elim (slice_get rules n) [ None ↦ false | Some other ↦ may_meet (set_rule_view rule) (set_rule_view other) ]

abbrev pub meets_listed : List Rule → Rule → List ℕ → Bool
meets_listed rules rule ns = list_any (meets_number rules rule) ns
