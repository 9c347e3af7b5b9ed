use Rattle.std.proofs.Common.{◌≡◌, [], refl}
use Rattle.std.specs.Bool.{◌==◌}
use Rattle.core_syntax.specs.Stable.{contains}
use Rattle.core_rule_sets.specs.SiteViews.{member_sites}
use Rattle.core_rule_sets.proofs.SitesIn.{none_passing}
use Rattle.core_rule_sets.proofs.trie_again.Rule.new.Goals as goal

pub returns : goal.returns
returns c =
    let none : member_sites c.new-3.result ≡ [] = none_passing 65536 (contains ◌==◌ c.new-3.result) c.new-3.ensures.none in
    rw (c.new.ensures.items, c.new-2.ensures, none, c.new-4.ensures.items) refl
