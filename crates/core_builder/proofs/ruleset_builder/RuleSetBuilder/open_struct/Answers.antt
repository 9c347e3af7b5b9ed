use Rattle.std.proofs.Common.{◌≡◌, ◌≤◌, subst, arith}
use Rattle.model.specs.sites.Sites.{is_struct, unfold_site}
use Rattle.model.specs.sites.Limits.{most_fields}
use Rattle.model.specs.visits.Demands.{counting, fields_matched, fields_opened}
use Rattle.core_builder.specs.VisitedSites.{OpensTo, built_sites}
use Rattle.core_builder.proofs.BuilderFields.{fields_open}
use Rattle.core_builder.proofs.BuilderSteps.{counted_stands, fields_pass}
use Rattle.core_builder.proofs.ruleset_builder.RuleSetBuilder.open_struct.Goals as goal

pub returns-clause-opened : goal.returns-clause-opened
returns-clause-opened c before v h l =
    let old = c.args.self.now in
    let mid = c.make_parts.new.self in
    let new = c.ask.new.self in
    let same : c.in-Ok.fields ≡ c.args.count = omega (arith, c.in-Ok.ensures) in
    let few : c.in-Ok.fields ≤ most_fields = omega (arith, c.in-Ok.ensures) in (
      omega (arith, c.in-Ok.ensures),
      subst (λ k. OpensTo before old new (fields_opened (is_struct c.args.ty.0 k) k (unfold_site (built_sites old) c.args.input) v) c.in_ok-ids.ids.items) same
          (fields_open before old mid new v (is_struct c.args.ty.0 c.in-Ok.fields) c.in-Ok.fields c.args.input c.in_ok-ids.ids.items l
          (c.in_ok-ids.ensures.made before (counting (fields_matched c.in-Ok.fields) v) (counted_stands before old v (fields_matched c.in-Ok.fields) h (fields_pass c.in-Ok.fields few)) l)
          (λ w g k. c.in_ok-ask.ensures.asked before w g k)),
    )
