use Rattle.std.proofs.Common.{Some, sym, ap, ◌∙◌}
use Rattle.run_terms.specs.RunViews.{many_by}
use Rattle.run_terms.specs.ValueViews.{content_view}
use Rattle.run_terms.proofs.ContentSteps.{view-Many}
use Rattle.run_terms.proofs.FieldSteps.{contents_listed}
use Rattle.run_terms.proofs.values.Content.into_answers.Goals as goal

pub returns-in-Many : goal.returns-in-Many
returns-in-Many c =
    ap Some (sym (contents_listed c.in-Many.answers.items)) ∙ sym (ap (λ d. many_by (Some d)) (ap content_view c.in-Many.is ∙ view-Many c.in-Many.answers))
