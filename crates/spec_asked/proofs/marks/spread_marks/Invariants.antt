use Rattle.std.proofs.Common.{◌≡◌, ◌<◌, ◌≤◌, ℕ, length}
use Rattle.core_rule_sets.specs.SiteViews.{site_views}
use Rattle.spec_asked.specs.Marks.{marks, spread}
use Rattle.spec_asked.proofs.marks.spread_marks.Given as goal

abbrev pub invariant-loop-count : goal.invariant-loop-count
invariant-loop-count l = (l.count ≤ length l.bindings)
    × ((n : ℕ) → n < length l.initial.made → length l.bindings ≤ length l.initial.made
    → spread (site_views l.bindings) l.count (marks l.made) n ≡ spread (site_views l.bindings) (length l.bindings) (marks l.initial.made) n)

abbrev pub decreases-loop-count : goal.decreases-loop-count
decreases-loop-count l = l.count
