-- What an answer of lowering does with its own types, terms and rules, by total functions.
use Rattle.std.specs.Prelude.{◌≡◌, ℕ, true, false, List, map, All, IsTrue}
use Rattle.std.specs.Bool.{◌==◌}
use Rattle.model.specs.rules.Values.{Value, args_well_typed}
use Rattle.model.specs.rules.Meaning.{look, TotalMeaning, total}
use Rattle.model.specs.rules.Program.{Program, is_multi, arg_types, rules_of, terms_with_rules}
use Rattle.model.specs.trees.Collects.{HasCollectedResults}
use Rattle.laws_trees.specs.FiniteAndTotal.{CollectsUnder}
use Rattle.laws_trees.specs.PatternConstants.{TellsPatternsApart}
use Rattle.laws_trees.specs.TotalLaws.{IsTotalFor, ChoosesUnder}
use Rattle.core_types.specs.Envs.{constant_at}
use Rattle.core_types.specs.TypeViews.{type_views}
use Rattle.core_terms.specs.TermViews.{term_views}
use Rattle.core_typed.specs.RuleViews.{rule_views}
use Rattle.core_rule_sets.specs.SiteViews.{site_views}
use Rattle.core_serialize.specs.TreeViews.{tree_view}
use Rattle.cranelift_isle.specs.declared.lower.LoweredTerm.{LoweredTerm}
use Rattle.cranelift_isle.specs.declared.lower.Lowered.{Lowered}

-- the program that an answer shows: its own types, terms and typed rules, with these types of named constants
abbrev pub shown_program : Lowered → List (ℕ × ℕ) → Program
shown_program l constants = record {
  types = type_views l.tyenv.types.items;
  constants = constants;
  terms = term_views l.termenv.terms.items;
  rules = rule_views l.termenv.rules.items;
}

-- a fact of the program that an answer shows. The answer looks up the type of a constant, and a program lists it: the list says of
-- every name what the look-up says
abbrev pub OfShown : Lowered → (Program → Type 0) → Type 0
OfShown l P = (constants : List (ℕ × ℕ)) × ((name : ℕ) → constant_at l.tyenv name ≡ look (λ n. n == name) constants) × P (shown_program l constants)

-- total functions by which a term can be run on these arguments: the functions are well typed for what the term's rules use, and give
-- different constants that its patterns name different values; the arguments have the types of the term's parameters
pub record CanRunBy (p : Program) (t : ℕ) (f : TotalMeaning) (args : List Value) : Type 0 where
  pub functions : IsTotalFor p t f
  pub apart : TellsPatternsApart p (total f) (rules_of p t)
  pub arguments : IsTrue (args_well_typed p.types (arg_types p t) args)

-- in a term that isn't multi, the run of the tree has the outcome of the matching rule of greatest priority: its result or failure, and
-- its impure calls in order; or no rule and no impure call, where none matches. And of two rules of one priority one matches at most
abbrev pub ChoosesByFunctions : Program → LoweredTerm → Type 0
ChoosesByFunctions p t =
    is_multi p t.id.0 ≡ false → (f : TotalMeaning) (args : List Value) → CanRunBy p t.id.0 f args
    → ChoosesUnder p t.id.0 (site_views t.rules.bindings.items) (tree_view t.block) (total f) args

-- each term with rules has one tree, in the order of their ids, and each tree chooses
pub record ChooseByPriority (l : Lowered) (p : Program) : Type 0 where
  pub each : map (λ t. t.id.0) l.terms.items ≡ terms_with_rules p
  pub chosen : All (ChoosesByFunctions p) l.terms.items

-- in a multi term whose rules make no impure call and leave no multi call of an if-let unused, the run of the tree makes no impure call,
-- and its results are the bag of the rules' results
abbrev pub CollectsByFunctions : Program → LoweredTerm → Type 0
CollectsByFunctions p t =
    is_multi p t.id.0 ≡ true → All (HasCollectedResults p) (rules_of p t.id.0) → (f : TotalMeaning) (args : List Value) → CanRunBy p t.id.0 f args
    → CollectsUnder p t.id.0 (site_views t.rules.bindings.items) (tree_view t.block) (total f) args

abbrev pub CollectTheBags : Lowered → Program → Type 0
CollectTheBags l p = All (CollectsByFunctions p) l.terms.items
