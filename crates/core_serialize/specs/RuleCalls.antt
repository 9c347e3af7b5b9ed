-- The calls that rules go over, listed by rules, and how many rules of a place go over each.
use Rattle.std.specs.Prelude.{◌≡◌, ◌≤◌, ℕ, List, Option, Some, None, get_or, length}
use Rattle.std.specs.List.{filter}
use Rattle.model.specs.sites.Sites.{iterator_site, SetRule, Site, SiteSet}
use Rattle.model.specs.trees.Places.{is_in}
use Rattle.model.specs.trees.Tests.{loop_test, needs_at}
use Rattle.core_serialize.specs.declared.calls.CallsByRule.{CallsByRule}
use Rattle.core_serialize.specs.FieldTests.{list_at}

-- the call for whose answers a site stands
abbrev pub looped_call : Site → Option ℕ
looped_call (iterator_site s) = Some s
looped_call _ = None

-- the calls that the rule of a number goes over, as they are listed
abbrev pub calls_of : CallsByRule → ℕ → List ℕ
calls_of calls i = list_at calls.by_rule.items i

-- under each rule stand exactly the calls that it goes over
pub record AreCalls (set : SiteSet) (calls : CallsByRule) : Type 0 where
  pub listed : (i s : ℕ) → needs_at set.rules (loop_test s) i ≡ is_in s (calls_of calls i)

-- at the number of a call at least as many as rules here go over it; behind the end of the list stands the number of all rules here
abbrev pub AreCounts : List SetRule → List ℕ → List ℕ → Type 0
AreCounts rules here counts = (s : ℕ) → length (filter (needs_at rules (loop_test s)) here) ≤ get_or counts s (length here)
