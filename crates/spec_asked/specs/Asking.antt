-- What is asked of a rule: lists of facts by their numbers in an arena.
use Rattle.std.specs.Prelude.{◌≡◌, ℕ, Bool, List, map, reverse}
use Rattle.model.specs.rules.Program.{Program}
use Rattle.model.specs.sites.RuleSets.{IsBuilt}
use Rattle.model.specs.sites.Sites.{SetRule, Site, SiteSet}
use Rattle.laws_specs.specs.Specs.{Unknowns}
use Rattle.model_questions.specs.Formulas as M
use Rattle.core_rule_sets.specs.declared.trie_again.Binding.{Binding}
use Rattle.spec_cases.specs.declared.formulas.Fact.{Fact}
use Rattle.spec_cases.specs.declared.formulas.Node.{Node}
use Rattle.spec_cases.specs.Expressions.{Saying, AreSaid}
use Rattle.spec_cases.specs.Namings.{Naming, Names, fact_of}
use Rattle.spec_steps.specs.declared.demands.Demands.{Demands}
use Rattle.spec_steps.specs.Roots.{plan}
use Rattle.spec_asked.specs.declared.asking.Asked.{Asked}
use Rattle.spec_asked.specs.declared.demanded.RuleDemands.{RuleDemands}
use Rattle.spec_asked.specs.declared.tables.ProgramTables.{ProgramTables}
use Rattle.spec_asked.specs.declared.tables.SpecTables.{SpecTables}
use Rattle.spec_asked.specs.Asked.{AreQuestionsOf}
use Rattle.spec_asked.specs.Sites.{site_of}
use Rattle.spec_asked.specs.Tables.{specs_of, AreOfProgram}

-- the facts of a question, the last one first, as the model has them
abbrev pub facts_of : Naming → Asked → List M.Fact
facts_of v a = reverse (map (fact_of v) a.facts.items)

-- numbers of sites stand for a set's sites
abbrev pub IsOfSites : Naming → List Site → Type 0
IsOfSites v sites = (n : ℕ) → v.site n ≡ site_of sites n

-- a condition's tables are these tables of a program and of specs, of a term, the bindings of a set, and what a rule demands
pub record AreTablesBy (d : Demands) (program : ProgramTables) (specs : SpecTables) (t : ℕ) (bindings : List Binding) (demands : RuleDemands) : Type 0 where
  pub types : d.types.now ≡ program.types.now
  pub signatures : d.signatures.now ≡ program.signatures.now
  pub sorts : d.sorts.now ≡ specs.sorts.now
  pub constants : d.constants.now ≡ specs.constants.now
  pub said : d.said.now ≡ specs.said.now
  pub bound : d.bindings.now ≡ bindings
  pub made : d.made.now ≡ demands.made.items
  pub term : d.term.0 ≡ t
  pub constraints : d.constraints.now ≡ demands.constraints.items
  pub equalities : d.equalities.now ≡ demands.equalities.items
  pub impure : d.impure.now ≡ demands.impure.items
  pub result : d.result ≡ demands.result

-- these are all questions about a rule of the set that was built for a term, by the specs that tables are of: of whatever program the tables
-- are, whatever expressions and formulas stand for, and whatever unknown functions answer; and these facts exclude rules of greater priority
abbrev pub AsksRule : List Node → ProgramTables → SpecTables → ℕ → SiteSet → SetRule → Bool → List Asked → List Fact → Type 0
AsksRule nodes program specs t set r flag qs es =
    (p : Program) (v : Naming) (w : Saying) (unknowns : Unknowns) → AreOfProgram program p → IsBuilt p t set
    → AreSaid w specs.exprs.now → Names v nodes → IsOfSites v set.sites → AreQuestionsOf p (specs_of specs w unknowns) t set r (plan flag) (map (facts_of v) qs) (map (fact_of v) es)
