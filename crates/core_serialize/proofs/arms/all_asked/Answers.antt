use Rattle.std.proofs.Common.{◌≡◌, ◌+◌, ◌∙◌, ap, get_or, option_map, sym, subst, take}
use Rattle.std.specs.List.{filter}
use Rattle.core_rule_sets.specs.SiteViews.{constraint_view, set_view}
use Rattle.core_serialize.specs.ArmOrder.{asks_some, asked_numbers, AreAsked}
use Rattle.core_serialize.proofs.ArmRuns.{asked_more, asked_none}
use Rattle.core_serialize.proofs.arms.all_asked.Goals.{in-Some+in_ok-push, in_default}
use Rattle.core_serialize.proofs.arms.all_asked.Goals as goal

pub loop-number-preserved : goal.loop-number-preserved
loop-number-preserved c =
    let rules = (set_view c.args.set.now).rules in
    let s = c.args.source in
    let here = c.args.here.now in
    let k = c.loop-number.number-index in
    let old = c.loop-number.invariant in
    elim c.match-asked_at.branch [
      | in-Some+in_ok-push w ↦
          let both = asked_more rules s here k c.loop-number.turns.items w.push.new.self.items (record { number = get_or here k 0; constraint = w.in-Some.constraint }) c.loop-number-test.true (λ i. get_or here k 0)
          (sym c.asked_at.ensures ∙ ap (option_map constraint_view) w.in-Some.is) w.in_ok-push.ensures.items old.each old.numbers in
          let same = sym w.turns-is in
          record {
            each = subst (λ v. AreAsked rules s v.items) same both.0;
            numbers = subst (λ v. asked_numbers v.items ≡ filter (asks_some rules s) (take (k + 1) here)) same both.1;
          }
      | in_default w ↦
          let same = sym w.turns-is in
          let none = asked_none rules s here k c.loop-number-test.true (sym c.asked_at.ensures ∙ ap (option_map constraint_view) w.in_default.is) in
          record {
            each = subst (λ v. AreAsked rules s v.items) same old.each;
            numbers = subst (λ v. asked_numbers v.items ≡ filter (asks_some rules s) (take (k + 1) here)) same (old.numbers ∙ none);
          }
    ]
