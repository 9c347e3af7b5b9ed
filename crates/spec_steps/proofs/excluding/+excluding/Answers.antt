use Rattle.std.proofs.Common.{is_some, slice_get, sym, ap, ◌∙◌}
use Rattle.core_rule_sets.specs.SiteViews.{site_view}
use Rattle.laws_questions.specs.BelowLaws as B
use Rattle.model.specs.rules.Program.{arg_types}
use Rattle.model.specs.sites.Sites.{layer}
use Rattle.model_questions.specs.Formulas as M
use Rattle.spec_steps.proofs.ExcludingSteps.{type_there}
use Rattle.spec_steps.proofs.excluding.+excluding.Goals as goal

pub there_by-returns-in-Argument : goal.there_by-returns-in-Argument
there_by-returns-in-Argument t c = λ v names. (
  names,
  λ m bound. ap M.known
      (c.is_some.ensures ∙ type_there c.own_type.result ∙ ap is_some (c.own_type.ensures v m) ∙ ap (λ i. is_some (slice_get (arg_types m.p m.c.term) i)) c.index.ensures.number)
      ∙ sym (ap (λ b. B.there_fact m.p m.specs m.c (layer v.site (site_view b))) c.in-Argument.is),
)
