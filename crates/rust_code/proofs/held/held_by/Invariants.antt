use Rattle.std.proofs.Common.{◌≡◌, ◌<◌, ℕ, length}
use Rattle.core_rule_sets.specs.SiteViews.{site_views}
use Rattle.rust_code.specs.HeldViews.{hold_in}
use Rattle.rust_code.specs.SeenTypes.{OfTables, arguments_in}
use Rattle.rust_code.specs.SiteHolds.{hold_of}
use Rattle.rust_code.proofs.held.held_by.Given as goal

abbrev pub invariant-loop-number : goal.invariant-loop-number
invariant-loop-number l = record {
  count : length l.held.items ≡ l.number;
  made : OfTables l.tables (λ p. (s : ℕ) → s < length l.held.items → hold_in l.held.items s ≡ hold_of p (arguments_in l.tables) (site_views l.tables.sites.now) s);
}
