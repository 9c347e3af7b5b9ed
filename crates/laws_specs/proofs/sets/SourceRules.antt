-- The source rule of each rule of a built set of accepted definitions.
use Rattle.std.proofs.Common.{◌≡◌, ℕ, Bool, List, Some, slice_get, sym, subst, ◌∙◌}
use Rattle.model.specs.lists.Elaborated.{TypedRules}
use Rattle.model.specs.lists.Syntax.{Definition}
use Rattle.model.specs.rules.Program.{Program, rules_of}
use Rattle.model.specs.rules.Typed.{TypedRule}
use Rattle.model.specs.sites.Sites.{SetRule, SiteSet}
use Rattle.model.specs.sites.Overlap.{BuiltRule, built_rules}
use Rattle.model.specs.sites.RuleSets.{IsRuleOf, IsBuilt}
use Rattle.model.specs.claims.Layers.{own_program, IsAccepted}
use Rattle.model.proofs.Elements.{In, in_slice, some_is}
use Rattle.laws_sites.proofs.built.BuiltGates.{one_rule}
use Rattle.laws_trees.proofs.headline.Places.{of_set_rule, typed_here}
use Rattle.laws_trees.specs.WholeDemands.{AsksWhatFollows, AcceptedSetsAreWhole}

pub record HasSourceRule (p : Program) (t : ℕ) (set : SiteSet) (place : ℕ) (r : SetRule) : Type 0 where
  pub typed : BuiltRule
  pub listed : In (built_rules p t) typed
  pub here : slice_get (rules_of p t) place ≡ Some typed.rule
  pub is : IsRuleOf p set.sites typed r
  pub asks : AsksWhatFollows p set.sites typed.rule r

pub source_rule : AcceptedSetsAreWhole → (defs : List Definition) (expand : Bool) (rules : TypedRules) → IsAccepted defs expand rules → (t : ℕ) (set : SiteSet) → IsBuilt (own_program defs rules) t set
    → (place : ℕ) (r : SetRule) → slice_get set.rules place ≡ Some r → HasSourceRule (own_program defs rules) t set place r
source_rule law defs expand rules accepted t set built place r there =
    let p = own_program defs rules in
    let x = of_set_rule p t set built place r there in
    let whole = (law defs expand rules accepted t set built).each_rule place r there in
    let here = typed_here p t set built (accepted.checkable.built t) place x.0 in
    record {
      typed = x.0.typed;
      listed = in_slice (built_rules p t) place x.0.typed x.0.here;
      here = here;
      is = subst (IsRuleOf p set.sites x.0.typed) x.1 (one_rule p t set x.0.typed x.0.built built x.0.one);
      asks = subst (λ (k : TypedRule). AsksWhatFollows p set.sites k r) (some_is whole.source x.0.typed.rule (sym whole.here ∙ here)) whole.asks;
    }
