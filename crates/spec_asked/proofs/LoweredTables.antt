-- What lowering answers has the tables of the definitions' program, and built sets.
use Rattle.std.proofs.Common.{◌≡◌, ℕ, Bool, List, Some, option_map, slice_get, ap, ◌∙◌}
use Rattle.std.proofs.lemmas.Option.{slice_get-map}
use Rattle.model.specs.claims.Layers.{own_program, IsLoweredTerm}
use Rattle.model.specs.lists.Elaborated.{TypedRules}
use Rattle.model.specs.lists.Syntax.{Definition}
use Rattle.model.specs.rules.Program.{Program}
use Rattle.model.specs.sites.RuleSets.{IsBuilt}
use Rattle.model.proofs.Elements.{in_slice}
use Rattle.laws_sites.proofs.built.WellBuiltSets.{in_from_all}
use Rattle.core_rule_sets.specs.SiteViews.{set_view}
use Rattle.core_terms.specs.TermViews.{term_views}
use Rattle.core_types.specs.TypeViews.{type_views}
use Rattle.cranelift_isle.specs.declared.lower.Lowered.{Lowered}
use Rattle.cranelift_isle.specs.declared.lower.LoweredTerm as Code
use Rattle.cranelift_isle.specs.Lowerings.{lowered_view, lowered_views}
use Rattle.spec_asked.specs.Lowered.{IsAnswer}

module _ (defs : List Definition) (expand : Bool) (rules : TypedRules) (l : Lowered) (is : IsAnswer defs expand rules l) where
  abbrev p : Program
  p = own_program defs rules

  pub types_are : type_views l.tyenv.types.items ≡ p.types
  types_are = is.environments.types.types

  pub terms_are : term_views l.termenv.terms.items ≡ p.terms
  terms_are = is.environments.rows.table

  pub lowered_there : (place : ℕ) (t : Code.LoweredTerm) → slice_get l.terms.items place ≡ Some t → IsLoweredTerm p (lowered_view t)
  lowered_there place t e =
      in_from_all (IsLoweredTerm p) (lowered_views l.terms.items) is.trees.lowered (lowered_view t)
      (in_slice (lowered_views l.terms.items) place (lowered_view t) (slice_get-map lowered_view l.terms.items place ∙ ap (option_map lowered_view) e))

  pub built_there : (place : ℕ) (t : Code.LoweredTerm) → slice_get l.terms.items place ≡ Some t → IsBuilt p t.id.0 (set_view t.rules)
  built_there place t e = (lowered_there place t e).built
