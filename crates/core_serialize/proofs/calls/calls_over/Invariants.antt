use Rattle.std.proofs.Common.{◌≡◌, take}
use Rattle.std.specs.List.{filter}
use Rattle.model.specs.trees.Places.{is_in}
use Rattle.core_rule_sets.specs.SiteViews.{set_rule_view}
use Rattle.core_serialize.proofs.calls.calls_over.Given as goal

abbrev pub invariant-loop-call : goal.invariant-loop-call
invariant-loop-call l = l.over.items ≡ filter (λ s. is_in s (set_rule_view l.rule).iterators) (take l.call-index l.calls)
