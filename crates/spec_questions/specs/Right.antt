-- Where solvers refute the questions about a rule, its condition is valid.
use Rattle.std.specs.Prelude.{◌≡◌, ◌⊎◌, ℕ, Bool, true, false, not, ◌||◌, List, [], ◌++◌, String, Some, IsTrue, map, reverse, is_some, slice_get, Contains}
use Rattle.std.specs.List.{list_all, list_any, All}
use Rattle.std.specs.declared.alloc.Global.{Global}
use Rattle.model.specs.claims.Layers.{own_program}
use Rattle.model.specs.rules.Program.{is_multi}
use Rattle.laws_specs.specs.Conditions.{IsValid}
use Rattle.laws_specs.specs.Meets.{Atoms, AreNumbers, IsDenotation}
use Rattle.laws_specs.specs.ProgramLaws.{RunTrees, RunCode, AllRunsAreAsSaid}
use Rattle.laws_specs.specs.SetConditions.{set_condition, IsValidBelowInSet}
use Rattle.laws_specs.specs.WholeRuns.{Functions}
use Rattle.model_questions.specs.Formulas as M
use Rattle.model_questions.specs.Questions.{IsUnsatisfiable}
use Rattle.core_rule_sets.specs.declared.trie_again.Rule.{Rule}
use Rattle.core_rule_sets.specs.SiteViews.{set_rule_view, set_view}
use Rattle.cranelift_isle.specs.declared.lower.Lowered.{Lowered}
use Rattle.cranelift_isle.specs.declared.lower.LoweredTerm.{LoweredTerm}
use Rattle.cranelift_isle.specs.Lowerings.{lowered_views}
use Rattle.core_terms.specs.TermViews.{term_views}
use Rattle.spec_cases.specs.declared.expressions.ExprId.{ExprId}
use Rattle.spec_cases.specs.declared.formulas.Fact.{Fact}
use Rattle.spec_cases.specs.declared.formulas.Fact.TheVariants as F
use Rattle.spec_cases.specs.declared.formulas.Node.{Node}
use Rattle.spec_cases.specs.Namings.{Naming, fact_of}
use Rattle.spec_data.specs.declared.data.SaidAt.{SaidAt}
use Rattle.spec_data.specs.declared.data.SpecData.{SpecData}
use Rattle.spec_data.specs.declared.data.TermSaid as DataTerms
use Rattle.spec_steps.specs.declared.demands.Signature.{Signature}
use Rattle.spec_steps.specs.declared.demands.TermSaid.{TermSaid}
use Rattle.spec_steps.specs.Roots.{plan}
use Rattle.spec_asked.specs.declared.asking.Asked.{Asked}
use Rattle.spec_asked.specs.declared.tables.SpecTables.{SpecTables}
use Rattle.spec_asked.specs.Asked.{AreQuestionsOf}
use Rattle.spec_asked.specs.Tables.{entry_types, signature_view, specs_of}
use Rattle.spec_asked.specs.Lowered.{program_in, specs_in, stands_at, AllStands, Stands, StandsIn}
use Rattle.spec_questions.specs.declared.answers.Answer.{Answer}
use Rattle.spec_questions.specs.declared.questions.Known.{Known}
use Rattle.spec_questions.specs.declared.questions.Question.{Question}
use Rattle.spec_questions.specs.declared.questions.Questions.{Questions}
use Rattle.spec_questions.specs.declared.questions.RuleQuestions.{RuleQuestions}
use Rattle.spec_questions.specs.declared.verdicts.Verdict.TheVariants as V
use Rattle.spec_questions.specs.Refuting.{is_refuted_by, is_shown}

-- the facts of questions, by their numbers
abbrev pub facts_in : List Question → List (List Fact)
facts_in qs = map (λ q. q.facts.items) qs

abbrev pub asked_facts : List Asked → List (List Fact)
asked_facts qs = map (λ q. q.facts.items) qs

-- what facts stand for, the last one first
abbrev pub turned : Naming → List Fact → List M.Fact
turned v fs = reverse (map (fact_of v) fs)

-- a truth that is known not to be so
abbrev pub is_known_false : Fact → Bool
is_known_false (F.Known truth) = not truth
is_known_false (F.At place) = false
is_known_false (F.AsWide place width) = false
is_known_false (F.IsKind place variant) = false
is_known_false (F.Made node) = false

-- a question has a text, or one of its facts is known not to be so
abbrev pub is_asked_or_plain : Question → Bool
is_asked_or_plain q = is_some q.wrong || list_any is_known_false q.facts.items

module _ (lowered : Lowered) (signatures : List Signature) (specs : SpecTables) (term : LoweredTerm) where
  -- these are the facts of all questions about a rule of the term, each place of known type asked at each of its widths, and those that
  -- exclude rules of greater priority
  abbrev pub AsksFacts : List Node → Rule → List (List Fact) → List Fact → Type 0
  AsksFacts nodes rule lists excluded =
      (s : Stands lowered signatures specs term) (n : StandsIn nodes term)
      → AreQuestionsOf (program_in lowered signatures specs term s) (specs_in lowered signatures specs term s) term.id.0 (set_view term.rules) (set_rule_view rule) (plan true) (map (turned n.naming) lists) (map (fact_of n.naming) excluded)

  -- all questions about a rule of the term are there, and only those that are known to be refuted have no text
  pub record IsAskedWhole (rule : Rule) (q : RuleQuestions) : Type 0 where
    pub asks : AsksFacts q.formulas rule (facts_in q.questions.items) q.excluded.items
    pub plain : IsTrue (list_all is_asked_or_plain q.questions.items)

  -- of a rule of a term of what was lowered
  pub record IsAskedOf (q : RuleQuestions) : Type 0 where
    pub place : ℕ
    pub there : slice_get lowered.terms.items place ≡ Some term
    pub rule : Rule
    pub at : ℕ
    pub of : slice_get term.rules.rules.items at ≡ Some rule
    pub same_term : q.term.0 ≡ term.id.0
    pub same_rule : q.rule.0 ≡ rule.id.0
    pub whole : IsAskedWhole rule q

  -- what is trusted: that solvers are right, and that a text says what its facts say. Where the text of a question is refuted, no model
  -- makes all of its facts true, and those that exclude rules of greater priority
  abbrev pub AreTextsRight : Stands lowered signatures specs term → Naming → List Answer → RuleQuestions → Type 0
  AreTextsRight s v answers rule =
      (q : Question) (text : String Global) → Contains rule.questions.items q → q.wrong ≡ Some text → IsTrue (is_refuted_by answers text.bytes.items)
      → IsUnsatisfiable (specs_in lowered signatures specs term s) (turned v q.facts.items ++ map (fact_of v) rule.excluded.items)

-- of all rules that are asked about by their own conditions
abbrev pub AreAskedWhole : Lowered → List Signature → SpecTables → List RuleQuestions → Type 0
AreAskedWhole lowered signatures specs qs = All (λ q. IsTrue q.is_own → (term : LoweredTerm) × IsAskedOf lowered signatures specs term q) qs

-- that stays so, where more is asked about a term of what was lowered, or about a rule of it
abbrev pub KeepsWhole : Lowered → List Signature → SpecTables → LoweredTerm → Questions → Questions → Type 0
KeepsWhole lowered signatures specs term a b =
    (place : ℕ) → slice_get lowered.terms.items place ≡ Some term → AreAskedWhole lowered signatures specs a.rules.items → AreAskedWhole lowered signatures specs b.rules.items

abbrev pub KeepsWholeBy : Lowered → List Signature → SpecTables → LoweredTerm → Rule → Questions → Questions → Type 0
KeepsWholeBy lowered signatures specs term rule a b = (at : ℕ) → slice_get term.rules.rules.items at ≡ Some rule → KeepsWhole lowered signatures specs term a b

-- what specs say of terms, without the places
abbrev pub exprs_in : List SaidAt → List ExprId
exprs_in said = map (λ s. s.expr) said

abbrev pub said_in : DataTerms.TermSaid → List ExprId × List ExprId
said_in s = (exprs_in s.require.items, exprs_in s.provide.items)

abbrev pub asked_in : TermSaid → List ExprId × List ExprId
asked_in s = (s.require.items, s.provide.items)

-- what is known is of the terms that were lowered, and what specs say
pub record IsKnownOf (lowered : Lowered) (said : SpecData) (k : Known) : Type 0 where
  pub same : k.«data» ≡ said
  pub signed : map signature_view k.signatures.items ≡ map entry_types (term_views lowered.termenv.terms.items)
  pub terms : map asked_in k.said.items ≡ map said_in said.terms.items

-- tables are of what is known
pub record AreKnownTables (k : Known) (specs : SpecTables) : Type 0 where
  pub sorts : specs.sorts.now ≡ k.«data».sorts.items
  pub constants : specs.constants.now ≡ k.«data».constants.items
  pub functions : specs.functions.now ≡ k.«data».functions.items
  pub exprs : specs.exprs.now ≡ k.«data».exprs.items
  pub said : specs.said.now ≡ k.said.items

-- and all questions about rules are asked by them
pub record IsAskedByTables (lowered : Lowered) (k : Known) (found : Questions) : Type 0 where
  pub specs : SpecTables
  pub tables : AreKnownTables k specs
  pub whole : AreAskedWhole lowered k.signatures.items specs found.rules.items

-- the law: a rule that is told right by such questions has a valid condition, where no rule of greater priority is excluded
abbrev pub RightRulesAreValid : Type 0
RightRulesAreValid =
    (lowered : Lowered) (signatures : List Signature) (specs : SpecTables) (term : LoweredTerm) (rule : Rule) (q : RuleQuestions) (answers : List Answer) (followed : Bool)
    (s : Stands lowered signatures specs term) (n : StandsIn q.formulas term)
    → IsAskedWhole lowered signatures specs term rule q → q.excluded.items ≡ []
    → IsTrue (is_shown answers q.questions.items followed V.Right)
    → AreTextsRight lowered signatures specs term s n.naming answers q
    → IsValid (program_in lowered signatures specs term s) (specs_in lowered signatures specs term s) (set_condition term.id.0 (set_view term.rules) (set_rule_view rule))

-- and where some are, it has a condition that is valid where no rule of greater priority matches
abbrev pub RightRulesAreValidBelow : Type 0
RightRulesAreValidBelow =
    (lowered : Lowered) (signatures : List Signature) (specs : SpecTables) (term : LoweredTerm) (rule : Rule) (q : RuleQuestions) (answers : List Answer) (followed : Bool)
    (s : Stands lowered signatures specs term) (n : StandsIn q.formulas term)
    → IsAskedWhole lowered signatures specs term rule q
    → IsTrue (is_shown answers q.questions.items followed V.Right)
    → AreTextsRight lowered signatures specs term s n.naming answers q
    → IsValidBelowInSet (program_in lowered signatures specs term s) (specs_in lowered signatures specs term s) term.id.0 (set_view term.rules) (set_rule_view rule)

-- a rule of a term is told right, by all questions about its own condition, and what is trusted is so of their texts
module _ (lowered : Lowered) (signatures : List Signature) (specs : SpecTables) (a : AllStands lowered signatures specs) (answers : List Answer) where
  pub record IsToldRight (place : ℕ) (term : LoweredTerm) (there : slice_get lowered.terms.items place ≡ Some term) (rule : Rule) : Type 0 where
    pub questions : RuleQuestions
    pub whole : IsAskedWhole lowered signatures specs term rule questions
    pub followed : Bool
    pub verdict : IsTrue (is_shown answers questions.questions.items followed V.Right)
    pub stands : StandsIn questions.formulas term
    pub texts : AreTextsRight lowered signatures specs term (stands_at lowered signatures specs a place term there) stands.naming answers questions

  -- without a rule of greater priority being excluded
  pub record IsToldRightAlone (place : ℕ) (term : LoweredTerm) (there : slice_get lowered.terms.items place ≡ Some term) (rule : Rule) : Type 0 where
    pub told : IsToldRight place term there rule
    pub alone : told.questions.excluded.items ≡ []

  abbrev pub AreEachTold : ((place : ℕ) (term : LoweredTerm) → slice_get lowered.terms.items place ≡ Some term → Rule → Type 0) → Type 0
  AreEachTold IsTold =
      (place : ℕ) (term : LoweredTerm) (there : slice_get lowered.terms.items place ≡ Some term) → is_multi (own_program a.defs a.rules) term.id.0 ≡ false
      → (at : ℕ) (rule : Rule) → slice_get term.rules.rules.items at ≡ Some rule → IsTold place term there rule

  -- each alone; or some below others, and atoms stand for numbers
  abbrev pub AreAllToldRight : Atoms → Type 0
  AreAllToldRight d = AreEachTold IsToldRightAlone ⊎ (AreEachTold IsToldRight × AreNumbers d)

-- then all whole runs of the trees, and of their code, answer as specs say
abbrev pub RightLoweringsComputeAsSaid : Type 0
RightLoweringsComputeAsSaid =
    (lowered : Lowered) (signatures : List Signature) (specs : SpecTables) (a : AllStands lowered signatures specs) (answers : List Answer) (f : Functions) (d : Atoms)
    → AreAllToldRight lowered signatures specs a answers d
    → RunTrees (own_program a.defs a.rules) (lowered_views lowered.terms.items) f ⊎ RunCode (own_program a.defs a.rules) (lowered_views lowered.terms.items) f
    → IsDenotation (own_program a.defs a.rules) (specs_of specs a.saying a.unknowns) d
    → AllRunsAreAsSaid (own_program a.defs a.rules) (specs_of specs a.saying a.unknowns) d f
