-- Of a rule that hangs together each variable is bound to a site before it is used, so the visit makes all the sites that
-- it equates.
use Rattle.std.proofs.Common.{◌≡◌, ◌⊎◌, ℕ, Bool, List, [], ◌∷◌, Contains, inl, inr, arith}
use Rattle.std.proofs.lemmas.Grind.{common_steps}
use Rattle.model.specs.rules.Program.{Program, Kind, unknown}
use Rattle.model.specs.rules.Typed.{TypedPatterns}
use Rattle.model.specs.sites.Sites.{is_present, SiteTerm, no_site}
use Rattle.model.specs.visits.Demands.{Demands, demands_of, Visit, asking, open_call, ValuedAll, visit_term, asking_all, visit_rule}
use Rattle.model.proofs.Elements.{In, in_from_contains, in_either}
use Rattle.laws_sites.specs.VisitLaws.{FormedRulesMakeEqualSites}
use Rattle.laws_sites.proofs.VisitedRules.{visits_make_lem}
use Rattle.laws_sites.proofs.Patterns.{term_known}
use Rattle.laws_sites.proofs.RuleParts.{rule_parts}
use Rattle.laws_sites.proofs.AskedSites.{equated}
use Rattle.laws_sites.proofs.WithSites.{by_equating}
use Rattle.laws_sites.proofs.WithTypes.{Facts, IsGiven, KeptWithTypes, all_fields_each, outputs_each, rule_kept_typed}

abbrev IsSite : SiteTerm → Type 0
IsSite u = u ≡ no_site → ⊥

-- what is equated are sites
abbrev EqualsSites : Demands → Type 0
EqualsSites d = (e : SiteTerm × SiteTerm) → In d.equalities e → IsSite e.0 × IsSite e.1

-- and so are what variables stand for and what values are
abbrev sites : Facts
sites = record { demands = EqualsSites; site = λ s ty. IsSite s; matched = λ t. Unit {0}; called = λ t. Unit {0} }

after_equated : (a b : SiteTerm) (v : Visit) → IsSite a → IsSite b → EqualsSites v.demands → EqualsSites (equated a b v).demands
after_equated a b v m n h e i = grind (arith, common_steps, in_either)

after_asking_all : (ss : List SiteTerm) (v : Visit) → EqualsSites v.demands → EqualsSites (asking_all ss v).demands
after_asking_all [] v h = h
after_asking_all (s ∷ ss) v h = after_asking_all ss (asking s is_present v) h

-- 1. patterns
call_equates : (pure multi partial rec infallible : Bool) (call : SiteTerm) (args : TypedPatterns) (v : Visit) → EqualsSites v.demands → EqualsSites (open_call (record { pure = pure; multi = multi; partial = partial; rec = rec }) infallible call args v).visit.demands
call_equates pure multi partial rec infallible call args v h = grind (arith, common_steps)

-- 2. expressions
term_is_site : (k : Kind) (t : ℕ) (a : ValuedAll) (ty : ℕ) → (k ≡ unknown → ⊥) → EqualsSites a.visit.demands → IsGiven sites (visit_term k t a) ty
term_is_site k t a ty known h = grind (arith, common_steps)

-- 3. rules
sites_kept : (p : Program) → KeptWithTypes sites p
sites_kept p = grind (arith, by_equating, after_equated, term_known, term_is_site, after_asking_all, all_fields_each, call_equates, outputs_each)

only_made : (v : Visit) (s : SiteTerm) → Contains v.demands.made s ⊎ (s ≡ no_site) → IsSite s → Contains v.demands.made s
only_made v s h n = elim h [ inl i ↦ i | inr e ↦ absurd (n e) ]

pub formed_rules_make_equal_sites_lem : FormedRulesMakeEqualSites
formed_rules_make_equal_sites_lem p r f a b i =
    let m = visits_make_lem p r a b i in
    let d = demands_of p r in
    let n = rule_kept_typed p sites (sites_kept p) r (rule_parts p r f) (λ t j. tt) (λ t j. tt) (λ j ty v e h. (λ q. cc, h)) (λ e j. absurd j) (a, b) (in_from_contains d.equalities (a, b) i) in
    (only_made (visit_rule p r).visit a m.0 n.0, only_made (visit_rule p r).visit b m.1 n.1)
