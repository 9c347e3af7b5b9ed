use Rattle.std.proofs.Common.{◌++◌, true, List, map, refl, subst}
use Rattle.model.proofs.Members.{each_passes, from_map}
use Rattle.model_questions.specs.Formulas as M
use Rattle.model_questions.specs.Questions.{IsUnsatisfiable}
use Rattle.core_rule_sets.specs.SiteViews.{set_rule_view, set_view}
use Rattle.spec_cases.specs.Namings.{fact_of}
use Rattle.spec_steps.specs.Roots.{plan}
use Rattle.spec_asked.specs.Lowered.{program_in, specs_in}
use Rattle.spec_questions.specs.declared.questions.Question.{Question}
use Rattle.spec_questions.specs.Refuting.{is_right_by}
use Rattle.spec_questions.specs.Right.{facts_in, is_asked_or_plain, turned}
use Rattle.spec_questions.proofs.RightRules.{so_unsatisfiable, all_right}
use Rattle.spec_questions.proofs.laws.right_rules_are_valid_below.Goals as goal

pub returns : goal.returns
returns c = λ lowered signatures specs term rule q answers followed s n whole shown trust.
    let said = specs_in lowered signatures specs term s in
    let v = n.naming in
    let qs = q.questions.items in
    let es = map (fact_of v) q.excluded.items in
    let beside : List M.Fact → List M.Fact = λ l. l ++ es in
    c.asked_rules_are_valid_below.ensures (program_in lowered signatures specs term s) said term.id.0 (set_view term.rules) (set_rule_view rule) (plan true) (map (turned v) (facts_in qs)) es (whole.asks s n)
    (λ fs i.
    let b = from_map beside (map (turned v) (facts_in qs)) fs i in
    let a = from_map (turned v) (facts_in qs) b.0 b.1 in
    let k = from_map (λ (x : Question). x.facts.items) qs a.0 a.1 in
    let none = so_unsatisfiable said v answers k.0 es k.0.wrong refl (each_passes (is_right_by answers) qs (all_right answers qs followed shown) k.0 k.1) (each_passes is_asked_or_plain qs (search whole.plain) k.0 k.1) (λ text e refuted. trust k.0 text k.1 e refuted) in
    subst (IsUnsatisfiable said) b.2 (subst (λ l. IsUnsatisfiable said (beside l)) a.2 (subst (λ l. IsUnsatisfiable said (beside (turned v l))) k.2 none)))
