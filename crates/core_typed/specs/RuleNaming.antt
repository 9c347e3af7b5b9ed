-- What naming one rule after another does.
use Rattle.std.specs.Prelude.{◌≡◌, ℕ, ◌<◌, Bool, ◌||◌, ◌⊎◌, nat_eq, List, [], ◌∷◌, ◌++◌, length, map, Contains, count_by, Option, Some, None, option_map, is_some, slice_get, All, IsTrue, if◌then◌else◌}
use Rattle.std.specs.Bool.{◌==◌}
use Rattle.core_syntax.specs.declared.syntax.Error.{Error}
use Rattle.core_syntax.specs.Stable.{Entries, look_up}
use Rattle.model.specs.lists.Syntax.{Position}
use Rattle.model.specs.lists.Names.{IsDistinct}
use Rattle.model.specs.lists.Tables.{TermEntry}
use Rattle.model.specs.rules.Typed.{TypedRule}
use Rattle.model.specs.lists.Elaborated.{rule_names, rule_named}
use Rattle.core_types.specs.declared.ids.Sym.{Sym}
use Rattle.core_types.specs.declared.ids.RuleId.{RuleId}
use Rattle.core_types.specs.Envs.{same_symbol, symbol}
use Rattle.core_terms.specs.Terms.{has_constructor_term, has_extractor_term}
use Rattle.core_syntax.specs.NotedErrors.{NotesMore}

-- where each rule stands
abbrev pub rules_at : List TypedRule → List Position
rules_at rules = map (λ r. r.at) rules

-- where each term was declared
abbrev pub terms_at : List TermEntry → List Position
terms_at terms = map (λ t. t.at) terms

-- how many of the rules each of so many terms has, by the terms' ids
pub record AreCounts (terms : ℕ) (rules : List TypedRule) (counts : List ℕ) : Type 0 where
  pub len : length counts ≡ terms
  pub each : (t : ℕ) → t < terms → slice_get counts t ≡ Some (count_by (λ q. q.root_term == t) rules)

-- the rule of the name of a number
abbrev pub rule_in : Entries Sym RuleId → ℕ → Option ℕ
rule_in m k = option_map (λ r. r.0) (look_up same_symbol m (symbol k))

-- a rule with a name that no rule has is found by it from now on
abbrev pub NamesAs : List Error → List Error → ℕ → Option ℕ → Entries Sym RuleId → Entries Sym RuleId → Type 0
NamesAs old new id None before after = (new ≡ old) × (after ≡ before)
NamesAs old new id (Some name) before after =
    ((new ≡ old) × (rule_in before name ≡ None) × ((k : ℕ) → rule_in after k ≡ (if nat_eq name k then Some id else rule_in before k)))
    ⊎ (NotesMore old new × IsTrue (is_some (rule_in before name)))

abbrev pub NamesRule : List Error → List Error → TypedRule → Entries Sym RuleId → Entries Sym RuleId → Type 0
NamesRule old new r before after = NamesAs old new r.id r.name before after

-- no two rules have one name, and each is found by its own; or there is an error, and two have one name
abbrev pub MapsNames : List Error → List Error → List TypedRule → Entries Sym RuleId → Type 0
MapsNames old new rules m =
    ((new ≡ old) × IsDistinct (rule_names rules) × ((k : ℕ) → rule_in m k ≡ rule_named rules k))
    ⊎ (NotesMore old new × (IsDistinct (rule_names rules) → ⊥))

-- a term has something that makes it or takes it apart
abbrev pub is_defined_term : TermEntry → Bool
is_defined_term t = has_constructor_term t || has_extractor_term t

-- each term has
abbrev pub AreDefined : List TermEntry → Type 0
AreDefined terms = All (λ t. IsTrue (is_defined_term t)) terms

-- the first rule with a name that a rule before it has: an error stands at its place
pub data TakesName (rules : List TypedRule) : List Position → Type 0 where
  takes_name : (before : List TypedRule) (rule : TypedRule) (after : List TypedRule) → rules ≡ before ++ rule ∷ after → IsDistinct (rule_names before)
      → (name : ℕ) → rule.name ≡ Some name → Contains (rule_names before) name → TakesName rules (rule.at ∷ [])

-- the first term that nothing makes or takes apart: an error stands where it is declared
pub data IsLeftUndefined (terms : List TermEntry) : List Position → Type 0 where
  left_undefined : (before : List TermEntry) (term : TermEntry) (after : List TermEntry) → terms ≡ before ++ term ∷ after
      → AreDefined before → (IsTrue (is_defined_term term) → ⊥) → IsLeftUndefined terms (term.at ∷ [])
