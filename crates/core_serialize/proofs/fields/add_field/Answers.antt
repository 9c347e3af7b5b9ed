use Rattle.std.proofs.Common.{◌≡◌, ◌∙◌, sym, ap, Some}
use Rattle.core_rule_sets.specs.SiteViews.{site_view}
use Rattle.core_serialize.specs.FieldTests.{brought_from}
use Rattle.core_serialize.proofs.FieldLists.{field_more}
use Rattle.core_serialize.proofs.fields.add_field.Goals as goal

pub returns-in_ok-push-clause-listed : goal.returns-in_ok-push-clause-listed
returns-in_ok-push-clause-listed c =
    let b = site_view c.args.binding.now in
    let from : brought_from b ≡ Some c.index.result = sym c.brought_from.ensures ∙ c.in-Some.is ∙ ap Some (sym c.index.ensures.number) in
    λ s. field_more c.args.lists.now.items c.index.result b c.index_mut.result.now c.push.new.self c.args.site s from (c.requires c.index.result from) c.index_mut.ensures.value c.in_ok-push.ensures.items
