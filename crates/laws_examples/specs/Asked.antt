-- A sample in which all premises of the law hold: two terms with rules and specs, the questions about their rules, and answers to them.
--   (decl f (u8) u8)
--   (decl g (u8) u8)
--   (rule (f x) x)
--   (rule (g x) (f x))
--   (spec (f x) (provide (= result x)) (require (bvult x #xc8)))
--   (spec (g x) (provide (= result x)) (require (bvult x #x64)))
use Rattle.std.specs.Prelude.{◌≡◌, ℕ, pos, true, false, List, [], ◌∷◌, Some, if◌then◌else◌, codes}
use Rattle.std.specs.Bool.{◌==◌}
use Rattle.model.specs.lists.Elaborated.{TypedRules}
use Rattle.model.specs.lists.Syntax.{Definition}
use Rattle.model.specs.rules.Program.{Program}
use Rattle.model.specs.rules.Typed.{TypedRule, make_term, make_var}
use Rattle.model.specs.sites.Sites.{SetRule, SiteSet, argument_site, constructor_site, argument, constructor_call}
use Rattle.model.specs.trees.Run.{run, world_of}
use Rattle.model.specs.trees.Trees.{no_step}
use Rattle.model.specs.claims.Layers.{own_program, IsAccepted, AreLowered, LoweredTerm}
use Rattle.laws_examples.specs.SetForms.{a_rule, returning, one_source}
use Rattle.laws_examples.specs.Stages.{Sample}
use Rattle.laws_examples.specs.TypedForms.{bind_any, e_list, rules_and_names, typed, typed_var, u8}
use Rattle.laws_examples.specs.Written.{bytes, call, declared, f_of_bytes, of_f, rule_to, term, var, variable}
use Rattle.laws_specs.specs.Words.{a_word, Operator, equals, word_less}
use Rattle.laws_specs.specs.WordOperators.{word_of}
use Rattle.laws_specs.specs.Specs.{words, SpecExpr, its_argument, its_result, the_same, operation, no_spec_expr, spec_expr_and, Spec, Specs, no_unknown}
use Rattle.laws_specs.specs.Meets.{Atoms, IsDenotation}
use Rattle.laws_specs.specs.ProgramLaws.{RunTrees, AllRunsAreAsSaid}
use Rattle.laws_specs.specs.SetConditions.{AllAreValidInSets}
use Rattle.laws_specs.specs.WholeRuns.{Functions}
use Rattle.model_questions.specs.Formulas.{argument_at, site_at, Word, written, word_at, Fact, fact_by, no_fact, no_operand, word_and}
use Rattle.laws_questions.specs.EnoughLaws.{rule_questions, Answers, unsat, SolversAreRight, Plans, AreAllRefuted}

-- the definitions, their typed rules, and the program
abbrev pub two_defs : List Definition
two_defs =
    f_of_bytes 0 1 ∷ declared 1 (codes "g") (bytes 1) (codes "u8")
    ∷ rule_to 2 (of_f 2 (var 2 (codes "x") ∷ [])) (variable 2 (codes "x"))
    ∷ rule_to 3 (term 3 (codes "g") (var 3 (codes "x") ∷ [])) (call 3 (codes "f") (variable 3 (codes "x") ∷ [])) ∷ []

abbrev pub f_rule : TypedRule
f_rule = typed 0 2 0 (pos 0) (Some 13) (typed_var 0 15 u8 ∷ []) (bind_any u8 0 ∷ []) (make_var u8 0)

abbrev pub g_rule : TypedRule
g_rule = typed 1 3 1 (pos 0) (Some 14) (typed_var 0 15 u8 ∷ []) (bind_any u8 0 ∷ []) (make_term u8 0 (e_list (make_var u8 0 ∷ [])))

abbrev pub two_rules : TypedRules
two_rules = rules_and_names (f_rule ∷ g_rule ∷ []) (codes "f" ∷ codes "g" ∷ codes "x" ∷ [])

abbrev pub two_terms : Program
two_terms = own_program two_defs two_rules

-- their sets and their trees
abbrev pub f_in_set : SetRule
f_in_set = record (a_rule 0 2 (pos 0) [] [] 0) { name = Some 13 }

abbrev pub f_set : SiteSet
f_set = record { rules = f_in_set ∷ []; sites = argument_site 0 ∷ [] }

abbrev pub g_in_set : SetRule
g_in_set = record (a_rule 1 3 (pos 0) [] [] 1) { name = Some 14; impure = 1 ∷ [] }

abbrev pub g_set : SiteSet
g_set = record { rules = g_in_set ∷ []; sites = argument_site 0 ∷ constructor_site 0 (0 ∷ []) 1 ∷ [] }

abbrev pub f_sample : Sample
f_sample = record { defs = two_defs; rules = two_rules; term = 0; multi = false; set = f_set; tree = returning [] 2 0 no_step; near_trees = [] }

abbrev pub g_sample : Sample
g_sample = record { defs = two_defs; rules = two_rules; term = 1; multi = false; set = g_set; tree = returning (1 ∷ []) 3 1 no_step; near_trees = [] }

abbrev pub lowered_of : Sample → LoweredTerm
lowered_of s = record { term = s.term; set = s.set; tree = s.tree }

abbrev pub both_lowered : List LoweredTerm
both_lowered = lowered_of f_sample ∷ lowered_of g_sample ∷ []

-- functions that run the trees
abbrev pub runs_of : Sample → Functions
runs_of s t m args = run s.tree (world_of two_terms s.term s.set.sites m args)

abbrev pub both_run : Functions
both_run t m args = if t == 0 then runs_of f_sample t m args else runs_of g_sample t m args

-- the specs
abbrev pub of_two : Operator → SpecExpr → SpecExpr → SpecExpr
of_two o a b = operation o (spec_expr_and a (spec_expr_and b no_spec_expr))

abbrev pub itself_below : ℕ → Spec
itself_below n = record { require = of_two word_less (its_argument 0) (the_same (a_word 8 n)) ∷ []; provide = of_two equals its_result (its_argument 0) ∷ [] }

abbrev pub two_specs : Specs
two_specs = record { models = (1, words 8) ∷ []; constants = []; unknowns = no_unknown; unknown_sorts = []; terms = (0, itself_below 200) ∷ (1, itself_below 100) ∷ [] }

abbrev pub as_bytes : Atoms
as_bytes ty z = a_word 8 (word_of 8 z)

-- the questions about both rules, as they are computed: the argument's word x, and the word r that the call answers
abbrev pub x : Word
x = word_at (argument_at 0) 8

abbrev pub r : Word
r = word_at (site_at (constructor_call 0 (one_source (argument 0)) 1)) 8

abbrev pub fact_of_two : Operator → Word → Word → Fact
fact_of_two o a b = fact_by o (word_and 8 a (word_and 8 b no_operand))

abbrev pub below : ℕ → Fact
below n = fact_of_two word_less x (written n)

abbrev pub f_question : List Fact
f_question = no_fact (fact_of_two equals x x) ∷ below 200 ∷ []

abbrev pub g_requires : List Fact
g_requires = no_fact (below 200) ∷ below 100 ∷ []

abbrev pub g_provides : List Fact
g_provides = no_fact (fact_of_two equals r x) ∷ fact_of_two equals r x ∷ below 200 ∷ below 100 ∷ []

abbrev pub no_splits : Plans
no_splits t place at = false

-- a solver said of each that it can't be satisfied
abbrev pub all_refuted : Answers
all_refuted = (f_question, unsat) ∷ (g_requires, unsat) ∷ (g_provides, unsat) ∷ []

-- all premises of the laws hold together, so all whole runs of these trees are as said
pub record AllPremisesHold : Type 0 where
  pub accepted : IsAccepted two_defs true two_rules
  pub lowered : AreLowered two_terms both_lowered
  pub runs : RunTrees two_terms both_lowered both_run
  pub denotes : IsDenotation two_terms two_specs as_bytes
  pub asked_of_f : rule_questions two_terms two_specs 0 f_set f_in_set (no_splits 0 0) ≡ f_question ∷ []
  pub asked_of_g : rule_questions two_terms two_specs 1 g_set g_in_set (no_splits 1 0) ≡ g_requires ∷ g_provides ∷ []
  pub right : SolversAreRight two_specs all_refuted
  pub refuted : AreAllRefuted two_terms both_lowered two_specs no_splits all_refuted
  pub valid : AllAreValidInSets two_terms both_lowered two_specs as_bytes
  pub as_said : AllRunsAreAsSaid two_terms two_specs as_bytes both_run
