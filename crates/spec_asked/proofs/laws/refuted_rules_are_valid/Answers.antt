use Rattle.std.proofs.Common.{map, subst}
use Rattle.core_rule_sets.specs.SiteViews.{set_rule_view, set_view}
use Rattle.model.specs.claims.Layers.{own_program}
use Rattle.model.proofs.Members.{from_map}
use Rattle.model_questions.specs.Questions.{IsUnsatisfiable}
use Rattle.spec_cases.specs.Namings.{fact_of}
use Rattle.spec_steps.specs.Roots.{plan}
use Rattle.spec_asked.specs.Asking.{facts_of}
use Rattle.spec_asked.specs.Tables.{specs_of}
use Rattle.spec_asked.proofs.laws.refuted_rules_are_valid.Goals as goal

pub returns : goal.returns
returns c = λ lowered signatures specs term s rule refuted.
    let said = specs_of specs s.saying s.unknowns in
    let facts = facts_of refuted.stands.naming in
    c.asked_rules_are_valid.ensures (own_program s.defs s.rules) said term.id.0 (set_view term.rules) (set_rule_view rule) (plan refuted.flag) (map facts refuted.qs) (map (fact_of refuted.stands.naming) refuted.es) (refuted.asks s refuted.stands)
    (λ q i. let m = from_map facts refuted.qs q i in subst (IsUnsatisfiable said) m.2 (refuted.none m.0 m.1))
