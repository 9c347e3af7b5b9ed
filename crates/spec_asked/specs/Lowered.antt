-- What is asked of the rules of lowered definitions.
use Rattle.std.specs.Prelude.{◌≡◌, ◌⊎◌, ℕ, Bool, false, List, map, Some, slice_get, Contains}
use Rattle.model.specs.claims.Layers.{own_program, LoweringAnswers}
use Rattle.model.specs.lists.Elaborated.{TypedRules}
use Rattle.model.specs.lists.Syntax.{Definition}
use Rattle.model.specs.rules.Meaning.{Meaning}
use Rattle.model.specs.rules.Outcome.{Outcome}
use Rattle.model.specs.rules.Program.{Program, is_multi, rules_of}
use Rattle.model.specs.rules.Values.{Value}
use Rattle.model.specs.sites.Serves.{TellsConstantsApart}
use Rattle.model.specs.trees.Run.{run, world_of}
use Rattle.laws_specs.specs.ConditionLaws.{IsCalled}
use Rattle.laws_specs.specs.Conditions.{IsValid}
use Rattle.laws_specs.specs.Meets.{Atoms, AnswersAsSaid, IsDenotation}
use Rattle.laws_specs.specs.ProgramLaws.{RunTrees, RunCode, AllRunsAreAsSaid}
use Rattle.laws_specs.specs.WholeRuns.{Functions}
use Rattle.laws_specs.specs.SetConditions.{set_condition}
use Rattle.laws_specs.specs.Specs.{Specs, Unknowns}
use Rattle.model_questions.specs.Questions.{IsUnsatisfiable}
use Rattle.core_rule_sets.specs.declared.trie_again.Rule.{Rule}
use Rattle.core_rule_sets.specs.SiteViews.{set_rule_view, set_view, site_views}
use Rattle.core_rules.specs.ShownEnvs.{environment_shown_by}
use Rattle.core_terms.specs.TermViews.{term_views}
use Rattle.core_types.specs.EnvViews.{environment_view}
use Rattle.cranelift_isle.specs.declared.lower.Lowered.{Lowered}
use Rattle.cranelift_isle.specs.declared.lower.LoweredTerm.{LoweredTerm}
use Rattle.cranelift_isle.specs.Lowerings.{lowered_view, lowered_views}
use Rattle.spec_cases.specs.declared.formulas.Fact.{Fact}
use Rattle.spec_cases.specs.declared.formulas.Node.{Node}
use Rattle.spec_cases.specs.Expressions.{Saying, AreSaid}
use Rattle.spec_cases.specs.Namings.{Naming, Names, fact_of}
use Rattle.spec_steps.specs.declared.demands.Signature.{Signature}
use Rattle.spec_steps.specs.Roots.{plan}
use Rattle.spec_asked.specs.declared.asking.Asked.{Asked}
use Rattle.spec_asked.specs.declared.tables.SpecTables.{SpecTables}
use Rattle.spec_asked.specs.Asked.{AreQuestionsOf}
use Rattle.spec_asked.specs.Asking.{facts_of, IsOfSites}
use Rattle.spec_asked.specs.Tables.{entry_types, signature_view, specs_of}

-- what lowering these definitions answers
abbrev pub IsAnswer : List Definition → Bool → TypedRules → Lowered → Type 0
IsAnswer defs expand rules l = LoweringAnswers defs expand (environment_view l.tyenv) (environment_shown_by l.termenv) rules (lowered_views l.terms.items)

-- what is lowered and said stands for something: the definitions, of which this is an answer that has this term, and what the numbers of
-- expressions stand for, whatever unknown functions answer
pub record Stands (lowered : Lowered) (signatures : List Signature) (specs : SpecTables) (term : LoweredTerm) : Type 0 where
  pub defs : List Definition
  pub expand : Bool
  pub rules : TypedRules
  pub answer : IsAnswer defs expand rules lowered
  pub place : ℕ
  pub there : slice_get lowered.terms.items place ≡ Some term
  pub signed : map signature_view signatures ≡ map entry_types (term_views lowered.termenv.terms.items)
  pub saying : Saying
  pub said : AreSaid saying specs.exprs.now
  pub unknowns : Unknowns

-- and so do the numbers of an arena, by the sites of the term's set
pub record StandsIn (nodes : List Node) (term : LoweredTerm) : Type 0 where
  pub naming : Naming
  pub named : Names naming nodes
  pub sites : IsOfSites naming (site_views term.rules.bindings.items)

module _ (lowered : Lowered) (signatures : List Signature) (specs : SpecTables) (term : LoweredTerm) where
  -- the definitions' program, the specs, and what the term became
  abbrev pub program_in : Stands lowered signatures specs term → Program
  program_in s = own_program s.defs s.rules

  abbrev pub specs_in : Stands lowered signatures specs term → Specs
  specs_in s = specs_of specs s.saying s.unknowns

  -- these are all questions about a rule of the term, and these facts exclude rules of greater priority
  abbrev pub AsksLowered : List Node → Rule → Bool → List Asked → List Fact → Type 0
  AsksLowered nodes rule flag qs es =
      (s : Stands lowered signatures specs term) (n : StandsIn nodes term)
      → AreQuestionsOf (program_in s) (specs_in s) term.id.0 (set_view term.rules) (set_rule_view rule) (plan flag) (map (facts_of n.naming) qs) (map (fact_of n.naming) es)

  module _ (s : Stands lowered signatures specs term) where
    -- all questions about a rule were asked, in some arena and by some flag, and no model satisfies one of them
    pub record IsRefuted (rule : Rule) : Type 0 where
      pub nodes : List Node
      pub flag : Bool
      pub qs : List Asked
      pub es : List Fact
      pub asks : AsksLowered nodes rule flag qs es
      pub stands : StandsIn nodes term
      pub none : (a : Asked) → Contains qs a → IsUnsatisfiable (specs_in s) (facts_of stands.naming a)

    -- so of each rule of the term
    abbrev pub AreRefuted : Type 0
    AreRefuted = (place : ℕ) (rule : Rule) → slice_get term.rules.rules.items place ≡ Some rule → IsRefuted rule

    -- the run of the term's tree
    abbrev pub run_in : Meaning → List Value → Outcome
    run_in m args = run (lowered_view term).tree (world_of (program_in s) term.id.0 (set_view term.rules).sites m args)

-- the laws. Where a rule is refuted, its condition is valid
abbrev pub RefutedRulesAreValid : Type 0
RefutedRulesAreValid =
    (lowered : Lowered) (signatures : List Signature) (specs : SpecTables) (term : LoweredTerm) (s : Stands lowered signatures specs term) (rule : Rule)
    → IsRefuted lowered signatures specs term s rule
    → IsValid (program_in lowered signatures specs term s) (specs_in lowered signatures specs term s) (set_condition term.id.0 (set_view term.rules) (set_rule_view rule))

-- where each rule of a term that isn't multi is refuted, runs of its tree answer what its spec says, where those that it calls do, and where
-- constants are told apart
abbrev pub RefutedTermsComputeAsSaid : Type 0
RefutedTermsComputeAsSaid =
    (lowered : Lowered) (signatures : List Signature) (specs : SpecTables) (term : LoweredTerm) (s : Stands lowered signatures specs term)
    → is_multi (program_in lowered signatures specs term s) term.id.0 ≡ false → AreRefuted lowered signatures specs term s
    → (d : Atoms) (m : Meaning) (args : List Value)
    → IsCalled (program_in lowered signatures specs term s) (specs_in lowered signatures specs term s) term.id.0 d m args (run_in lowered signatures specs term s m args).calls
    → TellsConstantsApart (program_in lowered signatures specs term s) m (rules_of (program_in lowered signatures specs term s) term.id.0)
    → AnswersAsSaid (program_in lowered signatures specs term s) (specs_in lowered signatures specs term s) term.id.0 d args (run_in lowered signatures specs term s m args)

-- all that is lowered and said stands for something
pub record AllStands (lowered : Lowered) (signatures : List Signature) (specs : SpecTables) : Type 0 where
  pub defs : List Definition
  pub expand : Bool
  pub rules : TypedRules
  pub answer : IsAnswer defs expand rules lowered
  pub signed : map signature_view signatures ≡ map entry_types (term_views lowered.termenv.terms.items)
  pub saying : Saying
  pub said : AreSaid saying specs.exprs.now
  pub unknowns : Unknowns

module _ (lowered : Lowered) (signatures : List Signature) (specs : SpecTables) (a : AllStands lowered signatures specs) where
  -- and so does each term
  abbrev pub stands_at : (place : ℕ) (term : LoweredTerm) → slice_get lowered.terms.items place ≡ Some term → Stands lowered signatures specs term
  stands_at place term there = record {
    defs = a.defs;
    expand = a.expand;
    rules = a.rules;
    answer = a.answer;
    place = place;
    there = there;
    signed = a.signed;
    saying = a.saying;
    said = a.said;
    unknowns = a.unknowns;
  }

  -- each rule of each term that isn't multi is refuted
  abbrev pub AreAllRefuted : Type 0
  AreAllRefuted =
      (place : ℕ) (term : LoweredTerm) (there : slice_get lowered.terms.items place ≡ Some term)
      → is_multi (own_program a.defs a.rules) term.id.0 ≡ false → AreRefuted lowered signatures specs term (stands_at place term there)

-- then all whole runs of the trees, and of their code, answer as specs say
abbrev pub RefutedLoweringsComputeAsSaid : Type 0
RefutedLoweringsComputeAsSaid =
    (lowered : Lowered) (signatures : List Signature) (specs : SpecTables) (a : AllStands lowered signatures specs) → AreAllRefuted lowered signatures specs a
    → (f : Functions) (d : Atoms)
    → RunTrees (own_program a.defs a.rules) (lowered_views lowered.terms.items) f ⊎ RunCode (own_program a.defs a.rules) (lowered_views lowered.terms.items) f
    → IsDenotation (own_program a.defs a.rules) (specs_of specs a.saying a.unknowns) d
    → AllRunsAreAsSaid (own_program a.defs a.rules) (specs_of specs a.saying a.unknowns) d f
