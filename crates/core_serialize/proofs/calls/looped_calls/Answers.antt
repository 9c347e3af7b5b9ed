use Rattle.std.proofs.Common.{◌≡◌, ◌∙◌, ap, map, subst, sym}
use Rattle.std.specs.List.{list_any}
use Rattle.std.proofs.lemmas.List.{take_all}
use Rattle.core_rule_sets.specs.SiteViews.{site_view}
use Rattle.core_serialize.specs.FieldTests.{is_iterator_of}
use Rattle.core_serialize.proofs.CallLists.{looped_more}
use Rattle.core_serialize.proofs.calls.looped_calls.Goals as goal

pub loop-binding-preserved : goal.loop-binding-preserved
loop-binding-preserved c s =
    looped_more c.deref-binding-items.result.now c.loop-binding.binding-index c.binding-item.result c.loop-binding.calls.items c.add_looped.new.calls.items s c.loop-binding-test.true c.binding-item.is (c.loop-binding.invariant s)
    (c.in_ok-add_looped.ensures s)

pub returns : goal.returns
returns c s =
    c.loop-binding.invariant s
    ∙ ap (λ l. list_any (is_iterator_of s) (map site_view l)) (take_all c.loop-binding.binding-index c.deref-binding-items.result.now c.loop-binding-test.false ∙ c.deref-binding-items.ensures.value)
