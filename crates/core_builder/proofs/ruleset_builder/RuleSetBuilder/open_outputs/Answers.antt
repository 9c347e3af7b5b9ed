use Rattle.std.proofs.Common.{◌≡◌, refl, sym, subst, arith}
use Rattle.model.specs.sites.Sites.{unfold_site}
use Rattle.model.specs.visits.Demands.{counting, outputs_opened, outputs_taken, pattern_count}
use Rattle.core_builder.specs.VisitedSites.{OpensTo, built_sites}
use Rattle.core_builder.proofs.BuilderFields.{no_outputs, one_output, parts_open, parts_end}
use Rattle.core_builder.proofs.BuilderSteps.{counted_stands, outputs_pass}
use Rattle.core_builder.proofs.ruleset_builder.RuleSetBuilder.open_outputs.Goals as goal

pub returns-then-count-eq0-clause-opened : goal.returns-then-count-eq0-clause-opened
returns-then-count-eq0-clause-opened c before v args h l e =
    let b = c.args.self.now in
    let u = unfold_site (built_sites b) c.args.site in
    let none : pattern_count args ≡ 0 = omega (arith, e) in
    let counted = counted_stands before b v (outputs_taken (pattern_count args)) h (outputs_pass (pattern_count args) (omega (arith, none))) in
    (omega arith, subst (OpensTo before b b (outputs_opened u args v)) (sym c.new.ensures.items) (no_outputs before b v u args none counted))

pub returns-then-count-eq1-clause-opened : goal.returns-then-count-eq1-clause-opened
returns-then-count-eq1-clause-opened c before v args h l e =
    let b = c.args.self.now in
    let u = unfold_site (built_sites b) c.args.site in
    let one : pattern_count args ≡ 1 = omega (arith, e) in
    let counted = counted_stands before b v (outputs_taken (pattern_count args)) h (outputs_pass (pattern_count args) (omega (arith, one))) in
    (omega arith, subst (OpensTo before b b (outputs_opened u args v)) (sym c.in_ok-vec.ensures.items) (one_output before b v u args c.args.site one counted (record { within = l; number = refl })))

pub returns-clause-opened : goal.returns-clause-opened
returns-clause-opened c before v args h l e =
    let same : c.in-Ok.parts ≡ c.args.count = omega (arith, c.in-Ok.ensures) in
    parts_open before c.args.self.now c.make_parts.new.self v (unfold_site (built_sites c.args.self.now) c.args.site) args c.in-Ok.parts c.args.count c.make_parts.result
    same (omega (arith, c.in-Ok.ensures)) e (omega arith)
    (c.make_parts.ensures.made before (counting (outputs_taken (pattern_count args)) v) (counted_stands before c.args.self.now v (outputs_taken (pattern_count args)) h (outputs_pass (pattern_count args) (omega (arith, e, c.in-Ok.ensures)))) l)

pub returns-clause-full : goal.returns-clause-full
returns-clause-full c before v args h l e =
    let same : c.in-Ok.parts ≡ c.args.count = omega (arith, c.in-Ok.ensures) in
    parts_end before c.args.self.now c.make_parts.new.self v (unfold_site (built_sites c.args.self.now) c.args.site) args c.in-Ok.parts c.args.count c.make_parts.result
    same (omega (arith, c.in-Ok.ensures)) e (omega arith) (c.make_parts.ensures.full before v h l)
