use Rattle.std.proofs.Common.{◌≡◌, true, ap, subst, sym, ◌∙◌}
use Rattle.core_rule_sets.specs.SiteViews.{set_rule_view}
use Rattle.model_questions.specs.Formulas as M
use Rattle.spec_steps.specs.Demands.{tested_views}
use Rattle.spec_steps.specs.Excluding.{all_met}
use Rattle.spec_asked.specs.Demanded.{tests_within}
use Rattle.spec_asked.proofs.AboveSteps.{excluded_is}
use Rattle.spec_asked.proofs.above.excluded_by.Goals as goal

pub returns : goal.returns
returns c = λ v names.
    let made = c.in_ok-not_all_met.ensures v names in
    let tests = c.in_ok-tests.tests.items in
    let within : tests_within c.args.count tests ≡ true = ap (tests_within c.args.count) (sym c.deref.ensures.value) ∙ sym c.are_tests_within.ensures ∙ c.if-not-are_tests_within.false in (
      made.0,
      λ m t set r of there ex.
          excluded_is m.p m.specs v m.c t set r (set_rule_view c.args.below.now) (set_rule_view c.args.above.now) c.args.count tests _ of there ex c.in_ok-tests.ensures within
          (made.1 m ∙ ap (λ l. M.none_of (all_met m.p m.specs m.c (tested_views v l))) c.deref-2.ensures.value),
    )
