use Rattle.std.proofs.Common.{◌≡◌, ◌≤◌, [], ◌∷◌, length, sym, ◌∙◌, subst, arith}
use Rattle.std.specs.Prelude.{MatchResult}
use Rattle.std.proofs.lemmas.List.{length-map}
use Rattle.core_syntax.specs.declared.syntax.Limit.TheVariants as Limits
use Rattle.model.specs.sites.Sites.{extractor_call, unfold_site}
use Rattle.model.specs.visits.Demands.{making, open_call}
use Rattle.model.specs.sites.Limits.{most_outputs}
use Rattle.core_typed.specs.VisitAnswers.{listed, type_numbers}
use Rattle.core_builder.specs.VisitedSites.{EndsOpening, OpensTo, answered, built_sites}
use Rattle.core_builder.proofs.BuilderFields.{listed_both}
use Rattle.core_builder.proofs.builder_patterns.RuleSetBuilderPatternVisitor.add_extract.Goals as goal

pub returns-clause-steps : goal.returns-clause-steps
returns-clause-steps c before v flags args h l is e =
    let tys = c.args.output_tys in
    let own = tys.ok.0 in
    let long = length-map tys.items (λ ty. ty.0) in
    let same : c.len.result ≡ length (type_numbers tys.items) = omega (arith, c.len.ensures) in
    let old = c.args.self.now in
    let new = c.open_extractor.new.self in
    let call = extractor_call c.args.term.0 (unfold_site (built_sites old) c.args.input) in
    let wanted = open_call flags c.args.infallible call args v in
    let limited = answered c.args.multi c.args.infallible call (making (call ∷ []) v) in
    subst (λ k. MatchResult (listed c.open_extractor.result) (λ ids. (k ≤ most_outputs) × OpensTo before old new wanted ids) (EndsOpening before new wanted.visit Limits.Outputs most_outputs k limited)) same
    (listed_both c.open_extractor.result (λ ids. (c.len.result ≤ most_outputs) × OpensTo before old new wanted ids) (EndsOpening before new wanted.visit Limits.Outputs most_outputs c.len.result limited)
    (c.open_extractor.ensures.opened before v flags args h l is (e ∙ sym same)) (c.open_extractor.ensures.full before v flags args h l is (e ∙ sym same)))
