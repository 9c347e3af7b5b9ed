use Rattle.std.proofs.Common.{◌∙◌, ap, sym}
use Rattle.std.specs.List.{prefix_len}
use Rattle.model.specs.trees.Places.{is_in}
use Rattle.core_rule_sets.specs.SiteViews.{constraint_views, set_rule_view, set_view}
use Rattle.core_serialize.proofs.MatchCounts.{matched_more}
use Rattle.core_serialize.proofs.Tables.{rule_at}
use Rattle.core_serialize.proofs.matched.raise_rule.Goals as goal

pub returns-in_ok-raise-clause-matched : goal.returns-in_ok-raise-clause-matched
returns-in_ok-raise-clause-matched c =
    let rule = c.in-Some.rule.now in
    let found = c.in-Some.ensures.lookup in
    let sources = c.args.sources.now in
    matched_more (set_view c.args.set.now).rules c.args.matched.now.counts.items c.raise.new.self.counts.items sources c.args.number c.count_of-count.result c.matched_count-more.result (set_rule_view rule) c.constraints.result.now
    (rule_at c.args.set.now.rules.items c.deref.result.now c.args.number rule (sym c.deref.ensures.value) found.3.0 found.1) (ap constraint_views (sym c.constraints.ensures.value)) c.count_of-count.ensures
    (c.matched_count-more.ensures.value ∙ ap (prefix_len (λ c. is_in c.0 sources)) c.behind.ensures) c.in_ok-raise.ensures.counts c.requires
