use Rattle.std.proofs.Common.{◌<◌, length, sym, subst, rules}
use Rattle.core_terms.specs.TermViews.{term_views}
use Rattle.core_typed.specs.RuleNaming.{AreCounts}
use Rattle.core_typed.specs.RuleViews.{rule_views}
use Rattle.core_typed.proofs.NameSteps.{named_at}
use Rattle.core_typed.proofs.rule_names.name_rules.Goals as goal

pub loop-i-preserved : goal.loop-i-preserved
loop-i-preserved c =
    let first = rule_views c.args.rules.now.items in
    let w : c.loop-i.i < length c.loop-i.rules.items = search rules in
    let counted = subst (λ cs. AreCounts (length c.args.terms.now) first cs) (sym c.deref.ensures.value) c.in_ok-counts.ensures in
    named_at (term_views c.args.terms.now) first c.loop-i.rules.items c.loop-i.i c.index_mut.result.now c.index.result.now c.name_for-name.result w c.index_mut.ensures.value c.index.ensures
    (c.name_for-name.ensures first counted) c.loop-i.invariant
