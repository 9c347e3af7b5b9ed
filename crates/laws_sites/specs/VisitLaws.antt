-- What visits of typed rules demand and make, and that they only add to what is made and counted.
use Rattle.std.specs.Prelude.{◌≡◌, true, Contains, ◌⊎◌, ℕ, ◌≤◌, List, ◌++◌, length, All}
use Rattle.model.specs.rules.Program.{Program}
use Rattle.model.specs.rules.Typed.{TypedRule, TypedPattern, TypedExpr, TypedIfLet}
use Rattle.model.specs.lists.Formed.{is_formed_rule}
use Rattle.model.specs.sites.DemandedGates.{ArePureIfLets, DemandsGates}
use Rattle.model.specs.sites.Sites.{SiteTerm, no_site}
use Rattle.model.specs.visits.Demands.{Demands, demands_of, Count, Visit, visit_pattern, visit_args, visit_expr, visit_iflets}
use Rattle.laws_typing.specs.WellTypedPrograms.{IsWellTypedProgram}

-- a rule that hangs together, and whose if-lets call pure terms alone, demands its gates
abbrev pub FormedRulesDemandGates : Type 0
FormedRulesDemandGates = (p : Program) (r : TypedRule) → is_formed_rule p r ≡ true → ArePureIfLets p r.iflets → DemandsGates p r

-- so do the rules of a well-typed program
abbrev pub WellTypedRulesDemandGates : Type 0
WellTypedRulesDemandGates = (p : Program) → IsWellTypedProgram p → (r : TypedRule) → Contains p.rules r → DemandsGates p r

-- the equated sites are made, as a visit does
abbrev pub EqualSitesAreMade : Demands → Type 0
EqualSitesAreMade d = (a b : SiteTerm) → Contains d.equalities (a, b) → Contains d.made a × Contains d.made b

-- the sites that a rule's demands equate are made by its visit, but for variables that nothing binds
abbrev pub VisitsMakeEqualSites : Type 0
VisitsMakeEqualSites =
    (p : Program) (r : TypedRule) (a b : SiteTerm) → Contains (demands_of p r).equalities (a, b)
    → (Contains (demands_of p r).made a ⊎ (a ≡ no_site)) × (Contains (demands_of p r).made b ⊎ (b ≡ no_site))

-- the visit of a rule that hangs together makes the sites that it equates
abbrev pub FormedRulesMakeEqualSites : Type 0
FormedRulesMakeEqualSites = (p : Program) (r : TypedRule) → is_formed_rule p r ≡ true → EqualSitesAreMade (demands_of p r)

-- a later visit: what it has made and counted begins with what was made and counted before, and the rest was counted after
-- what was made before
pub record Continues (v w : Visit) : Type 0 where
  pub made : List SiteTerm
  pub counted : List (Count × ℕ)
  pub makes : w.demands.made ≡ v.demands.made ++ made
  pub counts : w.demands.counted ≡ v.demands.counted ++ counted
  pub after : All (λ c. length v.demands.made ≤ c.1) counted

-- so does each visit of a pattern, of an expression, of arguments and of if-lets
pub record VisitContinues (p : Program) (v : Visit) : Type 0 where
  pub pattern : (q : TypedPattern) (s : SiteTerm) → Continues v (visit_pattern p q s v)
  pub args : (i : ℕ) (qs : List TypedPattern) → Continues v (visit_args p i qs v)
  pub expr : (x : TypedExpr) → Continues v (visit_expr p x v).visit
  pub iflets : (is : List TypedIfLet) → Continues v (visit_iflets p is v)

abbrev pub VisitsContinue : Type 0
VisitsContinue = (p : Program) (v : Visit) → VisitContinues p v
