use Rattle.std.proofs.Common.{◌<◌, ◌∙◌, length, arith}
use Rattle.std.proofs.lemmas.List.{length-map}
use Rattle.core_rule_sets.specs.SiteViews.{site_view, set_view}
use Rattle.core_serialize.specs.FieldTests.{list_at}
use Rattle.core_serialize.proofs.FieldLists.{brought_before, listed_more, site_here}
use Rattle.core_serialize.proofs.fields.fields_by_source.Goals as goal

pub add_field-requires : goal.add_field-requires
add_field-requires c =
    let bindings = c.args.set.now.bindings.items in
    let within : c.loop-s.s < length bindings = omega (arith, c.loop-s-test.true, c.len-s-end.ensures) in
    let many = length-map bindings site_view in
    λ a e.
    let before = brought_before (set_view c.args.set.now).sites c.loop-s.s (site_view c.index.result.now) a c.requires.sources (site_here bindings c.loop-s.s c.index.result.now within c.index.ensures) e in
    omega (arith, before, within, many, c.loop-s.invariant.count)

pub loop-s-preserved : goal.loop-s-preserved
loop-s-preserved c =
    let bindings = c.args.set.now.bindings.items in
    let b = site_view c.index.result.now in
    let within : c.loop-s.s < length bindings = omega (arith, c.loop-s-test.true, c.len-s-end.ensures) in
    record {
      count = c.in_ok-add_field.ensures.count ∙ c.loop-s.invariant.count;
      listed = λ s.
          c.in_ok-add_field.ensures.listed s
          ∙ listed_more (set_view c.args.set.now).sites s c.loop-s.s c.site_at.result b (list_at c.loop-s.by_source.items s) (site_here bindings c.loop-s.s c.index.result.now within c.index.ensures) c.site_at.ensures (c.loop-s.invariant.listed s);
    }
