-- The run of the visitor of sites through a rule worked by hand.
use Rattle.std.proofs.Common.{refl, subst}
use Rattle.laws_sites.proofs.SiteRuns.{site_runs_visit_lem}
use Rattle.laws_sites.proofs.SiteRunsMade.{site_runs_exist_lem}
use Rattle.model.specs.visits.SiteVisitor.{SiteRun}
use Rattle.laws_examples.specs.VisitedRules.{RunsAnswerOneSite, f_of_pair, pair_rule}

pub runs_answer_one_site_lem : RunsAnswerOneSite
runs_answer_one_site_lem =
    let e = site_runs_exist_lem f_of_pair pair_rule refl in
    let is = site_runs_visit_lem f_of_pair pair_rule e.0 e.1 refl e.2 in
    ((e.1, subst (λ s. SiteRun f_of_pair.terms pair_rule s e.1) is.site e.2), λ s v run. (site_runs_visit_lem f_of_pair pair_rule s v refl run).site)
