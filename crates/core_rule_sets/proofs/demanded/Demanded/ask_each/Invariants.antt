use Rattle.std.proofs.Common.{◌≡◌, ℕ, drop}
use Rattle.core_rule_sets.specs.Closings.{KeepsDue, asked_each}
use Rattle.core_rule_sets.specs.SiteDemands.{constraint_held}
use Rattle.core_rule_sets.specs.SiteViews.{constraint_view}
use Rattle.core_rule_sets.proofs.demanded.Demanded.ask_each.Given as goal

abbrev pub invariant-loop-site : goal.invariant-loop-site
invariant-loop-site l = record {
  due : KeepsDue l.self;
  equated : l.self.equals ≡ l.fn.self.equals;
  asked : (s : ℕ) → asked_each (constraint_held l.self) (drop l.site-index l.sites) (constraint_view l.constraint) s ≡ asked_each (constraint_held l.fn.self) l.sites (constraint_view l.constraint) s;
}
