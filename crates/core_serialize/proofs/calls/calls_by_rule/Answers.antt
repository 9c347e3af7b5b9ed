use Rattle.std.proofs.Common.{◌≡◌, ◌∙◌, [], ap, get_or, map, subst, sym}
use Rattle.std.proofs.lemmas.List.{take_all}
use Rattle.model.specs.trees.Places.{is_in}
use Rattle.core_rule_sets.specs.SiteViews.{set_view}
use Rattle.core_serialize.proofs.CallLists.{gone_over, listed_all, lists_more}
use Rattle.core_serialize.proofs.calls.calls_by_rule.Goals as goal

pub loop-rule-preserved : goal.loop-rule-preserved
loop-rule-preserved c =
    lists_more c.in_ok-calls.calls.items c.deref-rule-items.result.now c.loop-rule.rule-index c.rule-item.result c.loop-rule.by_rule.items c.push.new.self.items c.in_ok-calls_over.field-0 c.loop-rule-test.true c.rule-item.is
    (c.in_ok-calls_over.ensures ∙ ap (λ l. gone_over l c.rule-item.result) c.deref.ensures.value) c.in_ok-push.ensures.items c.loop-rule.invariant

pub returns : goal.returns
returns c = record {
  listed = λ i s.
      let all = c.loop-rule.invariant ∙ ap (map (gone_over c.in_ok-calls.calls.items)) (take_all c.loop-rule.rule-index c.deref-rule-items.result.now c.loop-rule-test.false ∙ c.deref-rule-items.ensures.value) in
      listed_all (set_view c.args.set.now).sites c.in_ok-calls.calls.items c.in_ok-calls.ensures c.args.set.now.rules.items c.requires.picks i s ∙ ap (λ l. is_in s (get_or l i [])) (sym all);
}
