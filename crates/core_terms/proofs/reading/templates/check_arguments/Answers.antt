use Rattle.std.proofs.Common.{map, refl, ap, ◌∙◌, inl, inr}
use Rattle.std.proofs.lemmas.Result.{on_ok_weaker}
use Rattle.core_terms.proofs.TemplateNames.{greatest_below, greatest_past}
use Rattle.core_terms.proofs.reading.templates.check_arguments.Goals as goal

pub returns-then-greatest-count-clause-notes : goal.returns-then-greatest-count-clause-notes
returns-then-greatest-count-clause-notes c =
    inl (refl, greatest_below c.deref.result.now c.in-Some.field-0.now c.args.count _ (ap (map (λ a. a.1)) c.deref.ensures.value ∙ c.in_ok-arguments.ensures.numbers) c.in-Some.ensures.1 c.if-greatest-count.true)

pub returns-clause-notes : goal.returns-clause-notes
returns-clause-notes c =
    on_ok_weaker c.report.result (λ r. inr (r, greatest_past c.deref.result.now c.in-Some.field-0.now c.args.count _ (ap (map (λ a. a.1)) c.deref.ensures.value ∙ c.in_ok-arguments.ensures.numbers) c.in-Some.ensures.0 c.if-greatest-count.false)) c.report.ensures.noted
