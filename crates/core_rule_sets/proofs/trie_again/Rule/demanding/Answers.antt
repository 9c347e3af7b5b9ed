use Rattle.std.proofs.Common.{◌≡◌, [], refl, ◌∙◌}
use Rattle.std.specs.Bool.{◌==◌}
use Rattle.core_syntax.specs.Stable.{contains}
use Rattle.core_rule_sets.specs.SiteViews.{member_sites}
use Rattle.core_rule_sets.proofs.DemandsListed.{demands_listed}
use Rattle.core_rule_sets.proofs.JoinedSets.{together_joins}
use Rattle.core_rule_sets.proofs.SitesIn.{none_passing}
use Rattle.core_rule_sets.proofs.trie_again.Rule.demanding.Goals as goal

pub invariant_of-result : goal.invariant_of-result
invariant_of-result c = record {
  ascending = c.in_ok-constraints.ensures.ascending;
  listed = c.in_ok-classes.ensures.listed;
  joined = λ a b. rw c.take_equals.ensures (c.in_ok-classes.ensures.joined a b ∙ together_joins c.args.demanded.now.equals c.in_ok-classes.ensures.partition a b);
}

pub returns-clause-listed : goal.returns-clause-listed
returns-clause-listed c sites k h =
    rw c.take_equals.ensures (demands_listed sites c.args.demanded.now k c.in_ok-constraints.constraints.items h c.in_ok-classes.ensures.partition c.in_ok-constraints.ensures.ascending c.in_ok-constraints.ensures.asked)

pub returns-clause-nothing_else : goal.returns-clause-nothing_else
returns-clause-nothing_else c =
    let none : member_sites c.new.result ≡ [] = none_passing 65536 (contains ◌==◌ c.new.result) c.new.ensures.none in
    rw (none, c.new-2.ensures.items) refl
