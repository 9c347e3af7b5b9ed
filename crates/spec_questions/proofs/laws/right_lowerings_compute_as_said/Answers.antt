use Rattle.std.proofs.Common.{ap, subst, ◌∙◌, inl, inr}
use Rattle.cranelift_isle.specs.Lowerings.{lowered_view, lowered_views}
use Rattle.core_rule_sets.specs.SiteViews.{set_rule_view, set_view}
use Rattle.laws_specs.specs.Conditions.{IsValid}
use Rattle.laws_specs.specs.SetConditions.{set_condition, AreValidInSet, AreValidBelowInSet, IsValidBelowInSet}
use Rattle.model.specs.claims.Layers.{own_program, LoweredTerm}
use Rattle.model.specs.rules.Program.{is_multi}
use Rattle.model.specs.sites.Sites.{SetRule}
use Rattle.model.proofs.Mapped.{get_mapped}
use Rattle.model.proofs.Members.{get_from_member}
use Rattle.spec_asked.specs.Lowered.{stands_at}
use Rattle.spec_asked.specs.Tables.{specs_of}
use Rattle.spec_questions.proofs.laws.right_lowerings_compute_as_said.Goals as goal

pub returns : goal.returns
returns c = λ lowered signatures specs a answers f d right runs denotes.
    let p = own_program a.defs a.rules in
    let said = specs_of specs a.saying a.unknowns in
    let terms = lowered_views lowered.terms.items in
    c.programs_of_sets_compute_as_said.ensures a.defs a.expand a.rules terms f said d a.answer.accepted a.answer.trees runs denotes
    (λ l i single.
    let at = get_from_member terms l i in
    let g = get_mapped lowered_view lowered.terms.items at.0 l at.1 in
    let s = stands_at lowered signatures specs a at.0 g.0 g.1 in
    let alone_in = ap (λ (x : LoweredTerm). is_multi p x.term) g.2 ∙ single in
    elim right [
      | inl alone ↦
          let P : LoweredTerm → Type 0 = λ x. AreValidInSet p said x in
          inl (subst P g.2
          (λ place r there.
          let h = get_mapped set_rule_view g.0.rules.rules.items place r there in
          let k = alone at.0 g.0 g.1 alone_in place h.0 h.1 in
          let Q : SetRule → Type 0 = λ q. IsValid p said (set_condition g.0.id.0 (set_view g.0.rules) q) in
          subst Q h.2 (c.right_rules_are_valid.ensures lowered signatures specs g.0 h.0 k.told.questions answers k.told.followed s k.told.stands k.told.whole k.alone k.told.verdict k.told.texts)))
      | inr below ↦
          let P : LoweredTerm → Type 0 = λ x. AreValidBelowInSet p said x in
          inr (
            subst P g.2
                (λ place r there.
                let h = get_mapped set_rule_view g.0.rules.rules.items place r there in
                let k = below.0 at.0 g.0 g.1 alone_in place h.0 h.1 in
                let Q : SetRule → Type 0 = λ q. IsValidBelowInSet p said g.0.id.0 (set_view g.0.rules) q in
                subst Q h.2 (c.right_rules_are_valid_below.ensures lowered signatures specs g.0 h.0 k.questions answers k.followed s k.stands k.whole k.verdict k.texts)),
            below.1,
          )
    ])
