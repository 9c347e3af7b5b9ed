use Rattle.std.proofs.Common.{◌≡◌, ℕ, length, filter}
use Rattle.model.specs.trees.Tests.{up_to}
use Rattle.core_rule_sets.specs.SiteViews.{set_view}
use Rattle.core_serialize.specs.FieldTests.{passes_at, is_brought_from, list_at}
use Rattle.core_serialize.proofs.fields.fields_by_source.Given as goal

abbrev pub invariant-loop-s : goal.invariant-loop-s
invariant-loop-s l = record {
  count : length l.by_source.items ≡ length (set_view l.set).sites;
  listed : (s : ℕ) → list_at l.by_source.items s ≡ filter (passes_at (is_brought_from s) (set_view l.set).sites) (up_to l.s);
}
