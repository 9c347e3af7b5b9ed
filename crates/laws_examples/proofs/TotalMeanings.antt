-- The echo is a total meaning of what the sample with an extractor calls, and the misfit isn't.
use Rattle.std.proofs.Common.{◌≡◌, ◌∷◌, [], ℕ, pos, Contains, refl, subst, inl, inr, arith}
use Rattle.std.proofs.lemmas.Grind.{common_steps}
use Rattle.std.proofs.lemmas.Bool.{false≢true}
use Rattle.std.proofs.lemmas.Option.{none-some}
use Rattle.model.proofs.Members.{nothing_in, in_alone, in_cases, in_head}
use Rattle.laws_sites.specs.RuleUses.{Use, a_term, a_constant}
use Rattle.laws_trees.proofs.total.Total.{total_meanings_serve_lem}
use Rattle.laws_examples.proofs.SampleStages.{extract_stages}
use Rattle.model.specs.claims.Layers.{own_program}
use Rattle.laws_typing.proofs.WellTypedRules.{read_programs_are_well_typed}
use Rattle.laws_examples.specs.Extract.{extract_defs, extract_rules}
use Rattle.laws_examples.specs.MeaningForms.{given, v}
use Rattle.laws_examples.specs.TotalMeanings.{echo, EchoIsTotal, MisfitIsNotTotal, EchoIsTotalWithAConstant, EchoServes, EchoGives}

-- the rules use the extractor alone
abbrev is_a_term : Use → Type 0
is_a_term (a_term t) = Unit {0}
is_a_term (a_constant name) = ⊥

pub only_e : (u : Use) → Contains (a_term 0 ∷ a_term 0 ∷ []) u → a_term 0 ≡ u
only_e u c = elim (in_cases (a_term 0) u (a_term 0 ∷ []) c) [ inl e ↦ e | inr i ↦ in_alone (a_term 0) u i ]

pub no_constant : (name : ℕ) → Contains (a_term 0 ∷ a_term 0 ∷ []) (a_constant name) → ⊥
no_constant name c = subst is_a_term (only_e (a_constant name) c) tt

pub echo_is_total : EchoIsTotal
echo_is_total = grind (arith, common_steps, none-some)

pub misfit_is_not_total : MisfitIsNotTotal
misfit_is_not_total h = absurd (false≢true (h.extractors 0 _ (v (pos 0)) (in_head (a_term 0) (a_term 0 ∷ [])) refl refl refl))

pub echo_is_total_with_a_constant : EchoIsTotalWithAConstant
echo_is_total_with_a_constant = grind (arith, common_steps, no_constant, nothing_in)

pub echo_serves : EchoServes
echo_serves z = total_meanings_serve_lem (own_program extract_defs extract_rules) 1 echo (given z) (read_programs_are_well_typed extract_stages.accepted.0.read) echo_is_total.0 refl

pub echo_gives_ten : EchoGives (pos 1) (pos 10)
echo_gives_ten = refl

pub echo_gives_itself : EchoGives (pos 7) (pos 7)
echo_gives_itself = refl
