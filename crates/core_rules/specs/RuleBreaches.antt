-- Which rule or declaration breaks a condition that lists with typed rules meet, and the positions at which an error that says so
-- stands. There are four stages, one after another: all rules are typed, as if each term had a constructor; no two have one name;
-- each declared term is defined; each term that expressions use has a constructor. What is broken is the first such at a stage,
-- where nothing is at the stages before it.
use Rattle.std.specs.Prelude.{◌≡◌, ℕ, Bool, List, [], ◌∷◌, ◌++◌, length, All, Some, None}
use Rattle.std.specs.List.{flat_map}
use Rattle.core_syntax.specs.declared.syntax.Error.{Error}
use Rattle.core_syntax.specs.Positions.{rule_positions}
use Rattle.model.specs.lists.Syntax.{Position, Name, DeclTree, RuleTree, Definition}
use Rattle.model.specs.lists.Names.{IsDistinct}
use Rattle.model.specs.lists.Setting.{Setting}
use Rattle.model.specs.lists.TermTable.{decl_trees, rule_trees, IsDefined, AllDefined, IsValidTerms, term_names_met}
use Rattle.model.specs.lists.Elaborated.{TypedRules, named_rules, rule_names}
use Rattle.model.specs.claims.Environments.{TypesRead, setting_of}
use Rattle.core_types.specs.declared.type_env.TypeEnv.{TypeEnv}
use Rattle.core_types.specs.Envs.{names_of}
use Rattle.core_terms.specs.TermBreaches.{BreaksTerms}
use Rattle.core_typed.specs.FirstErrors.{BeginsAt, MayBegin}
use Rattle.core_typed.specs.RuleNaming.{TakesName, AreDefined, IsLeftUndefined}
use Rattle.core_rules.specs.declared.term_env.TermEnv.{TermEnv}
use Rattle.core_rules.specs.Constructors.{AreMadeUses, AreTermsNamed, uses_of_rule}
use Rattle.core_rules.specs.RuleLists.{rule_within, rules_within}
use Rattle.core_rules.specs.RulePositions.{templates_positions}
use Rattle.core_rules.specs.ShownSettings.{IsSettingOf}

-- as if each term had a constructor, the rules before it are typed, and from the names met before it, it isn't: an error on it
-- stands at its positions, or at those of the templates that are expanded
pub data IsUntyped (e : Setting) (trees : List RuleTree) (names : List (List ℕ)) : List Position → Type 0 where
  untyped : (before : List RuleTree) (rule : RuleTree) (after : List RuleTree) → trees ≡ before ++ rule ∷ after → (l : TypedRules) → rules_within e 0 before names ≡ Some l → rule_within e (length before) rule l.names ≡ None
      → IsUntyped e trees names (rule_positions rule ++ templates_positions e.expand e.terms)

-- what the expressions of rules before it use has constructors, and what it uses hasn't
pub data UsesUnmade (AreMade : List (Position × Name) → Type 0) (trees : List RuleTree) : List Position → Type 0 where
  uses_unmade : (before : List RuleTree) (rule : RuleTree) (after : List RuleTree) → trees ≡ before ++ rule ∷ after → AreMade (flat_map uses_of_rule before) → (AreMade (uses_of_rule rule) → ⊥) → UsesUnmade AreMade trees (rule_positions rule)

-- the terms declared before it are defined, and it isn't
pub data IsUndefined (defs : List Definition) : List Position → Type 0 where
  undefined : (before : List DeclTree) (d : DeclTree) (after : List DeclTree) → decl_trees defs ≡ before ++ d ∷ after → All (IsDefined defs) before → (IsDefined defs d → ⊥) → IsUndefined defs (d.at ∷ [])

-- the four stages, by what says that the terms are defined, and which of them isn't
pub data BreaksReading (Defined : Type 0) (Undefined : List Position → Type 0) (e : Setting) (trees : List RuleTree) (names : List (List ℕ)) : List Position → Type 0 where
  isnt_typed : (ps : List Position) → IsUntyped e trees names ps → BreaksReading Defined Undefined e trees names ps
  takes_a_name : (l : TypedRules) → rules_within e 0 trees names ≡ Some l → (ps : List Position) → TakesName (named_rules e.terms l.rules) ps → BreaksReading Defined Undefined e trees names ps
  isnt_defined : (l : TypedRules) → rules_within e 0 trees names ≡ Some l → IsDistinct (rule_names (named_rules e.terms l.rules)) → (ps : List Position) → Undefined ps → BreaksReading Defined Undefined e trees names ps
  uses_the_unmade : (l : TypedRules) → rules_within e 0 trees names ≡ Some l → IsDistinct (rule_names (named_rules e.terms l.rules)) → Defined → (ps : List Position) → UsesUnmade (AreMadeUses e names) trees ps
      → BreaksReading Defined Undefined e trees names ps

-- by the tables: the first error that is noted while rules are typed
abbrev pub BeginsUntyped : TermEnv → TypeEnv → List RuleTree → List Error → List Error → Type 0
BeginsUntyped env old trees errors after = (e : Setting) → IsSettingOf old env e → MayBegin (IsUntyped e trees (names_of old)) errors after

-- and the first of all
abbrev pub BeginsWrong : TermEnv → TypeEnv → List RuleTree → List Error → List Error → Type 0
BeginsWrong env old trees errors after =
    (e : Setting) → IsSettingOf old env e → AreTermsNamed e (names_of old) → MayBegin (BreaksReading (AreDefined e.terms) (IsLeftUndefined e.terms) e trees (names_of old)) errors after

-- what a list lacks of having typed rules, and the positions at which an error on it stands: its terms aren't valid, or they are
-- and something breaks one of the four conditions
pub data BreaksRules (e : TypesRead) (defs : List Definition) (expand : Bool) : List Position → Type 0 where
  of_terms : (ps : List Position) → BreaksTerms e.known defs ps → BreaksRules e defs expand ps
  of_rules : IsValidTerms e.known defs → (ps : List Position) → BreaksReading (AllDefined defs) (IsUndefined defs) (setting_of e defs expand) (rule_trees defs) (term_names_met e.known defs) ps → BreaksRules e defs expand ps

-- the first of these errors stands at something that does
abbrev pub FirstBreaksRules : TypesRead → List Definition → Bool → List Error → Type 0
FirstBreaksRules e defs expand errors = BeginsAt (BreaksRules e defs expand) errors
