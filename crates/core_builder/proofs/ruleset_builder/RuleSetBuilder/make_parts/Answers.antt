use Rattle.std.proofs.Common.{◌≡◌, ◌<◌, [], subst, sym, arith}
use Rattle.model.specs.sites.Sites.{unfold_site, fields_from}
use Rattle.model.specs.visits.Demands.{making}
use Rattle.core_builder.specs.VisitedSites.{EndsBefore, MakesAll, built_sites, part_of}
use Rattle.core_builder.proofs.BuilderFields.{none_made, part_below, part_made, part_ends}
use Rattle.core_rule_sets.proofs.FullTables.{passed_on}
use Rattle.core_builder.proofs.ruleset_builder.RuleSetBuilder.make_parts.Goals as goal

pub loop-place-init : goal.loop-place-init
loop-place-init c = record { count = c.new-ids.ensures.len; made = λ before v h l. subst (MakesAll before c.args.self.now c.args.self.now v []) (sym c.new-ids.ensures.items) (none_made before c.args.self.now v h) }

pub loop-place-preserved : goal.loop-place-preserved
loop-place-preserved c = record {
  count = let a = c.in_ok-push.ensures.len in let b = c.loop-place.invariant.count in omega arith;
  made = λ before v h l.
      let m = c.loop-place.invariant.made before v h l in
      let below = part_below before _ _ v c.args.parts c.args.source c.loop-place.place c.from-field.result c.loop-place.ids.items _ l c.from-field.ensures c.binding-part.ensures m in
      part_made before _ _ v c.args.parts c.args.source c.loop-place.place c.from-field.result c.loop-place.ids.items _ l c.from-field.ensures c.binding-part.ensures m c.make.new.self c.in_ok-id.id
      c.push.new.self.items (c.in_ok-id.ensures.made before _ m.goes.stands below) c.in_ok-push.ensures.items;
}

pub returns-in_err-id-clause-full : goal.returns-in_err-id-clause-full
returns-in_err-id-clause-full c before v h l =
    let m = c.loop-place.invariant.made before v h l in
    let below = part_below before _ _ v c.args.parts c.args.source c.loop-place.place c.from-field.result c.loop-place.ids.items _ l c.from-field.ensures c.binding-part.ensures m in
    let within : c.loop-place.place < c.args.count = omega arith in
    let e = c.in_err-id.field-0.0 in
    passed_on c.from_residual.result e (EndsBefore before c.make.new.self (making (fields_from (part_of c.args.parts (unfold_site (built_sites c.args.self.now) c.args.source)) 0 c.args.count) v)) c.from_residual.ensures
    (part_ends before _ _ v c.args.parts c.args.source c.loop-place.place c.from-field.result c.loop-place.ids.items _ l c.from-field.ensures c.binding-part.ensures m c.make.new.self c.args.count e within
    (c.in_err-id.ensures.full before _ m.goes.stands below))

pub returns-clause-made : goal.returns-clause-made
returns-clause-made c before v h l =
    let old = c.args.self.now in
    let all : c.loop-place.place ≡ c.args.count = omega arith in
    subst (λ k. MakesAll before old c.loop-place.self v (fields_from (part_of c.args.parts (unfold_site (built_sites old) c.args.source)) 0 k) c.loop-place.ids.items) all (c.loop-place.invariant.made before v h l)
