use Rattle.std.proofs.Common.{◌≡◌, ℕ, map, take}
use Rattle.std.specs.List.{list_any}
use Rattle.model.specs.trees.Places.{is_in}
use Rattle.core_rule_sets.specs.SiteViews.{site_view}
use Rattle.core_serialize.specs.FieldTests.{is_iterator_of}
use Rattle.core_serialize.proofs.calls.looped_calls.Given as goal

abbrev pub invariant-loop-binding : goal.invariant-loop-binding
invariant-loop-binding l = (s : ℕ) → is_in s l.calls.items ≡ list_any (is_iterator_of s) (map site_view (take l.binding-index l.binding-items))
