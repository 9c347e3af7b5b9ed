-- What the condition of a rule, its program and its specs are, by tables and numbers.
use Rattle.std.specs.Prelude.{◌≡◌, ℕ, Bool, false, List, [], ◌∷◌, map, Option, Some, None, slice_get}
use Rattle.model.specs.rules.Program.{Program}
use Rattle.model.specs.sites.Sites as Sites
use Rattle.model.specs.sites.Serves.{term_args, term_results}
use Rattle.model.specs.visits.Demands.{has_site}
use Rattle.laws_specs.specs.Specs as L
use Rattle.laws_specs.specs.Conditions.{Condition}
use Rattle.core_rule_sets.specs.declared.trie_again.Binding.{Binding}
use Rattle.core_types.specs.TypeViews.{type_views}
use Rattle.spec_cases.specs.declared.expressions.ExprId.{ExprId}
use Rattle.spec_cases.specs.declared.formulas.Node.{Node}
use Rattle.spec_cases.specs.Expressions.{Saying}
use Rattle.spec_cases.specs.Namings.{Naming, Makes}
use Rattle.spec_cases.specs.Places.{AreApart}
use Rattle.spec_cases.specs.Sorts.{type_sorts}
use Rattle.spec_cases.specs.Steps.{constant_views, constraint_view}
use Rattle.spec_steps.specs.declared.demands.Demands.{Demands}
use Rattle.spec_steps.specs.declared.demands.Signature.{Signature}
use Rattle.spec_steps.specs.declared.demands.TermSaid.{TermSaid}
use Rattle.spec_steps.specs.declared.demands.Tested.{Tested}
use Rattle.spec_steps.specs.declared.demands.Same.{Same}
use Rattle.spec_steps.specs.Listing.{sites}
use Rattle.spec_steps.specs.Sites.{AreSites}

-- the types of a term's arguments, and of its result: of no term there are none
abbrev pub args_of : Option Signature → List ℕ
args_of None = []
args_of (Some s) = map (λ t. t.0) s.args.items

abbrev pub results_of : Option Signature → List ℕ
results_of None = []
results_of (Some s) = s.result.0 ∷ []

-- what a term's spec requires and provides: without a spec nothing
abbrev pub required_of : Option TermSaid → List ExprId
required_of None = []
required_of (Some s) = s.require.items

abbrev pub provided_of : Option TermSaid → List ExprId
provided_of None = []
provided_of (Some s) = s.provide.items

abbrev pub is_marked : Option Bool → Bool
is_marked None = false
is_marked (Some b) = b

module _ (v : Naming) where
  abbrev pub tested_view : Tested → Sites.SiteTerm × Sites.Constraint
  tested_view t = (v.site t.site, constraint_view t.constraint)

  abbrev pub tested_views : List Tested → List (Sites.SiteTerm × Sites.Constraint)
  tested_views ts = map tested_view ts

  abbrev pub same_view : Same → Sites.SiteTerm × Sites.SiteTerm
  same_view s = (v.site s.first, v.site s.second)

  abbrev pub same_views : List Same → List (Sites.SiteTerm × Sites.SiteTerm)
  same_views ss = map same_view ss

-- tables and numbers are of a program, of specs and of a condition
pub record Demand (v : Naming) (w : Saying) (d : Demands) (p : Program) (specs : L.Specs) (c : Condition) : Type 0 where
  pub types : type_views d.types.now ≡ p.types
  pub args : (t : ℕ) → term_args (slice_get p.terms t) ≡ args_of (slice_get d.signatures.now t)
  pub results : (t : ℕ) → term_results (slice_get p.terms t) ≡ results_of (slice_get d.signatures.now t)
  pub models : specs.models ≡ type_sorts d.sorts.now
  pub constants : specs.constants ≡ constant_views d.constants.now
  pub required : (t : ℕ) → (L.spec_of specs t).require ≡ map (λ e. w.expr e.0) (required_of (slice_get d.said.now t))
  pub provided : (t : ℕ) → (L.spec_of specs t).provide ≡ map (λ e. w.expr e.0) (provided_of (slice_get d.said.now t))
  pub bound : AreSites v d.bindings.now
  pub made : (n : ℕ) (b : Binding) → slice_get d.bindings.now n ≡ Some b → has_site c.made (v.site n) ≡ is_marked (slice_get d.made.now n)
  pub term : c.term ≡ d.term.0
  pub constraints : c.constraints ≡ tested_views v d.constraints.now
  pub equalities : c.equalities ≡ same_views v d.equalities.now
  pub impure : c.impure ≡ sites v d.impure.now
  pub result : c.result ≡ v.site d.result

-- what they are of
pub record Meant (v : Naming) (d : Demands) : Type 0 where
  pub w : Saying
  pub p : Program
  pub specs : L.Specs
  pub c : Condition
  pub apart : AreApart v
  pub demand : Demand v w d p specs c

-- formulas are added, and what was there stands for what it stood for; whatever numbers stand for now, of sites that are told apart, and
-- whatever tables are of, P is so
abbrev pub MakesFor : List Node → List Node → (d : Demands) → ((v : Naming) → Meant v d → Type 0) → Type 0
MakesFor old new d P = Makes old new (λ v. (m : Meant v d) → P v m)
