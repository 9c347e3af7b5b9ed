use Rattle.std.proofs.Common.{Contains, sym, subst}
use Rattle.core_rule_sets.specs.SiteViews.{set_rule_view}
use Rattle.spec_asked.proofs.AboveSteps.{first_of_set, rest_of_set}
use Rattle.spec_asked.proofs.above.+add_excluded.Goals as goal

pub returns-in_ok-add_excluded-in-len1-up : goal.returns-in_ok-add_excluded-in-len1-up
returns-in_ok-add_excluded-in-len1-up t c = λ v names.
    let later = c.in_ok-add_excluded-in-len1-up.ensures v names in
    let here = c.in_ok-add_if_excluding-in-len1-up.ensures v later.0 in
    let rules = c.args.rules.now in (
      here.0,
      λ m term set r of these all.
          later.1 m term set r of (rest_of_set rules set c.in-len1-up.len_at_least these) (here.1 m term set r of (subst (λ q. Contains set.rules (set_rule_view q)) (sym c.first-item.is) (first_of_set rules set _ c.in-len1-up.len_at_least these)) all),
    )
