-- The judge of acceptance gives the typed rules of an accepted list, and nothing where a list isn't accepted.
use Rattle.std.proofs.Common.{◌≡◌, Bool, true, List, Option, Some, None, slice_get, Decides, refl, sym, ◌∙◌, subst, arith}
use Rattle.std.proofs.lemmas.Bool.Decides.{Decides-like}
use Rattle.std.proofs.lemmas.Option.{none-some, same_Some, slice_get_within}
use Rattle.std.proofs.lemmas.Grind.{common_steps}
use Rattle.model.specs.lists.Syntax.{Definition}
use Rattle.model.specs.lists.Tables.{TermEntry}
use Rattle.model.specs.lists.Formed.{of_entry}
use Rattle.model.specs.lists.Elaborated.{TypedRules}
use Rattle.model.specs.claims.Layers.{own_program, IsCheckable, IsAccepted}
use Rattle.model.specs.claims.ReadJudge.{read_list}
use Rattle.model.specs.claims.AcceptJudge.{is_checkable, accepted_list}
use Rattle.laws_typing.proofs.Typings.{then_gives, if_gives}
use Rattle.laws_typing.proofs.JudgedReading.{lists_are_read_lem}
use Rattle.laws_typing.proofs.WellTypedRules.{read_programs_are_well_typed}
use Rattle.laws_sites.specs.AcceptLaws.{WellTypedRulesHaveTerms, RulesAreJudged, ListsAreAccepted, ListsAreNotAccepted}
use Rattle.laws_sites.proofs.overlaps.CheckedPrograms.{check_is_exact_lem}
use Rattle.laws_sites.proofs.overlaps.Overlaps.{none_listed}

some_entry : (o : Option TermEntry) (f : TermEntry → Bool) → of_entry o f ≡ true → (t : TermEntry) × (o ≡ Some t)
some_entry o f h = grind (arith, common_steps)

pub well_typed_rules_have_terms_lem : WellTypedRulesHaveTerms
well_typed_rules_have_terms_lem p h r c = let t = some_entry (slice_get p.terms r.root_term) _ (h.rules r c).formed in slice_get_within p.terms r.root_term t.0 t.1

pub rules_are_judged_lem : RulesAreJudged
rules_are_judged_lem p terms = grind (arith, common_steps, check_is_exact_lem, Decides-like, none_listed)

module _ (defs : List Definition) (expand : Bool) where
  judged : (rules : TypedRules) → read_list defs expand ≡ Some rules → Decides (is_checkable (own_program defs rules)) (IsCheckable (own_program defs rules))
  judged rules h =
      rules_are_judged_lem (own_program defs rules)
      (well_typed_rules_have_terms_lem (own_program defs rules) (read_programs_are_well_typed ((lists_are_read_lem defs expand rules).0 h)))

  accepted : (rules : TypedRules) → accepted_list defs expand ≡ Some rules → IsAccepted defs expand rules
  accepted rules h =
      let m = then_gives (read_list defs expand) _ h in
      let p = if_gives (is_checkable (own_program defs m.0)) (Some m.0) m.2 in
      let same : m.0 ≡ rules = same_Some m.0 rules p.1 in
      subst (IsAccepted defs expand) same (record { read = (lists_are_read_lem defs expand m.0).0 m.1; checkable = (judged m.0 m.1).0 p.0 })

  given : (rules : TypedRules) → IsAccepted defs expand rules → accepted_list defs expand ≡ Some rules
  given rules a = grind (arith, common_steps, lists_are_read_lem defs expand rules, judged rules)

pub lists_are_accepted_lem : ListsAreAccepted
lists_are_accepted_lem defs expand rules = (accepted defs expand rules, given defs expand rules)

pub lists_are_not_accepted_lem : ListsAreNotAccepted
lists_are_not_accepted_lem defs expand = (
  (λ h rules a. none-some rules (sym h ∙ given defs expand rules a)),
  λ h. elim (accepted_list defs expand) as (λ o. accepted_list defs expand ≡ o → o ≡ None) [
    | None ↦ λ _. refl
    | Some rules ↦ λ e. absurd (h rules (accepted defs expand rules e))
  ] refl,
)
