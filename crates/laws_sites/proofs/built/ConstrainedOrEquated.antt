-- No rule of a built set both constrains and equates a site.
use Rattle.std.proofs.Common.{ℕ, List, [], Contains, subst}
use Rattle.model.specs.rules.Program.{Program, rules_of}
use Rattle.model.specs.sites.Sites.{Constraint, SiteTerm, unfold_site}
use Rattle.model.specs.sites.Overlap.{BuiltRule, built_rules}
use Rattle.model.specs.claims.SetMeanings.{ConstrainsOrEquates}
use Rattle.model.proofs.Elements.{In}
use Rattle.laws_sites.specs.BuiltLaws.{BuiltRulesConstrainOrEquate}
use Rattle.laws_sites.proofs.BuiltRules.{constrained_sites_stand_in_no_class_lem}
use Rattle.laws_sites.proofs.built.BuiltGates.{was_built}
use Rattle.laws_sites.proofs.built.BuiltSets.{BuiltSet, RuleOfSet}
use Rattle.laws_sites.proofs.built.WellBuiltSets.{each_of_set}

-- a constrained site stands in no class of the closed demands of a rule of a term
built_apart : (p : Program) (t : ℕ) (b : BuiltRule) → In (built_rules p t) b → (s : SiteTerm) (c : Constraint) (class : List SiteTerm)
    → Contains b.demands.constraints (s, c) → Contains b.demands.classes class → Contains class s → ⊥
built_apart p t b i =
    let w = was_built p [] (rules_of p t) b i in
    subst (λ (k : BuiltRule). (s : SiteTerm) (c : Constraint) (class : List SiteTerm) → Contains k.demands.constraints (s, c) → Contains k.demands.classes class → Contains class s → ⊥) w.same
    (constrained_sites_stand_in_no_class_lem p w.before w.rule w.built)

rule_apart : (s : BuiltSet) (x : RuleOfSet s) → ConstrainsOrEquates x.rule
rule_apart s x n a c k j =
    let m = x.is.constraints.asked n c k in
    let y = x.is.classes.joined n a j in
    built_apart s.program s.term x.typed x.listed (unfold_site s.set.sites n) c y.2 m.1 y.3 y.4

pub built_rules_constrain_or_equate_lem : BuiltRulesConstrainOrEquate
built_rules_constrain_or_equate_lem p t set h =
    let s : BuiltSet = record { program = p; term = t; set = set; built = h } in each_of_set s ConstrainsOrEquates (rule_apart s)
