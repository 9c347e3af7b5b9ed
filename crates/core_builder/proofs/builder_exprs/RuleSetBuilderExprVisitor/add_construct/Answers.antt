use Rattle.std.proofs.Common.{◌≡◌, ◌<◌, length, map, All, sym, ap, ◌∙◌, subst}
use Rattle.std.specs.Prelude.{MatchResult}
use Rattle.std.proofs.lemmas.Result.{MatchResult-from_both}
use Rattle.model.specs.sites.Sites.{each_term, unfold_site}
use Rattle.model.specs.visits.Demands.{visit_call}
use Rattle.core_typed.specs.VisitAnswers.{typed_inputs}
use Rattle.core_builder.specs.VisitedSites.{EndsBefore, ValuesTo, built_sites, input_ids}
use Rattle.core_builder.proofs.BuilderCalls.{ids_typed}
use Rattle.core_builder.proofs.builder_exprs.RuleSetBuilderExprVisitor.add_construct.Goals as goal

pub returns : goal.returns
returns c flags pure partial multi known before v h =
    let old = c.args.self.now in
    let new = c.construct.new.self in
    let t = c.args.term.0 in
    let ids = c.in_ok-parameters.parameters.items in
    let same : ids ≡ input_ids (typed_inputs c.args.inputs.items) = c.in_ok-parameters.ensures ∙ ap (map (λ x. x.0)) c.deref.ensures.value ∙ ids_typed c.args.inputs.items in
    let all = subst (All (λ n. n < length (built_sites old))) (sym same) known in
    subst (λ xs. MatchResult c.construct.result (ValuesTo before old new (visit_call flags t (each_term (unfold_site (built_sites old)) xs) v))
    (EndsBefore before new (visit_call flags t (each_term (unfold_site (built_sites old)) xs) v).visit)) same
    (MatchResult-from_both c.construct.result (ValuesTo before old new (visit_call flags t (each_term (unfold_site (built_sites old)) ids) v))
    (EndsBefore before new (visit_call flags t (each_term (unfold_site (built_sites old)) ids) v).visit)
    (c.construct.ensures.constructed before v flags h all pure partial multi) (c.construct.ensures.full before v flags h all pure partial multi))
