use Rattle.std.proofs.Common.{◌≡◌, ℕ, false, take}
use Rattle.std.specs.List.{list_any}
use Rattle.model.specs.trees.Tests.{needs_at, loop_test}
use Rattle.core_rule_sets.specs.SiteViews.{set_view}
use Rattle.core_serialize.proofs.open_tests.some_goes_over.Given as goal

abbrev pub invariant-loop-number : goal.invariant-loop-number
invariant-loop-number l = (s : ℕ) → list_any (needs_at (set_view l.set).rules (loop_test s)) (take l.number-index l.numbers) ≡ false
