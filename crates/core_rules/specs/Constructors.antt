-- Whether the terms that a rule's expressions name have constructors. Without one an expression has no typing.
use Rattle.std.specs.Prelude.{◌≡◌, ℕ, ◌<◌, Bool, true, false, List, [], ◌++◌, length, All, IsTrue, Option, Some, None, option_map, unwrap_or, slice_get}
use Rattle.std.specs.List.{flat_map}
use Rattle.core_syntax.specs.declared.syntax.Error.{Error}
use Rattle.core_syntax.specs.Expressions.{terms_of_expr}
use Rattle.model.specs.lists.Syntax.{Position, Name, RuleTree, Definition, rule_definition}
use Rattle.model.specs.lists.Names.{number, IsDistinct}
use Rattle.model.specs.lists.Tables.{TermEntry}
use Rattle.model.specs.lists.Setting.{Setting, entry_named, has_constructor}
use Rattle.model.specs.rules.CalledTerms.{CallsAlone}
use Rattle.model.specs.rules.Typed.{TypedIfLet, TypedRule}
use Rattle.core_typed.specs.Elaborating.{Checks}
use Rattle.core_types.specs.declared.type_env.TypeEnv.{TypeEnv}
use Rattle.core_rules.specs.declared.term_env.TermEnv.{TermEnv}
use Rattle.core_rules.specs.PatternUses.{found_term}

-- whether a term, if it is there, has a constructor
abbrev pub has_constructor_if_there : Option TermEntry → Bool
has_constructor_if_there None = true
has_constructor_if_there (Some t) = has_constructor t.kind

-- each of these uses is of a term with a constructor, or of no term
abbrev pub AreMadeUses : Setting → List (List ℕ) → List (Position × Name) → Type 0
AreMadeUses e names uses = All (λ u. IsTrue (has_constructor_if_there (entry_named (number names u.1.text) e.terms))) uses

-- what the expressions of a rule use, those of if-lets first
abbrev pub uses_of_rule : RuleTree → List (Position × Name)
uses_of_rule r = flat_map (λ i. terms_of_expr i.expr) r.iflets ++ terms_of_expr r.expr

-- what the rule that a definition is uses, if it is one
abbrev pub uses_of_definition : Definition → List (Position × Name)
uses_of_definition (rule_definition r) = uses_of_rule r
uses_of_definition _ = []

-- by the tables, each of these uses is of a term with a constructor, or of no term
abbrev pub AreFoundMade : TermEnv → TypeEnv → List (Position × Name) → Type 0
AreFoundMade env tyenv uses = All (λ u. IsTrue (has_constructor_if_there (found_term env tyenv u.1.text))) uses

-- there is a term with this id, and it has a constructor
abbrev pub IsMadeTerm : List TermEntry → ℕ → Type 0
IsMadeTerm terms id = IsTrue (unwrap_or (option_map (λ t. has_constructor t.kind) (slice_get terms id)) false)

-- each term that the expression of a typed if-let calls has a constructor
abbrev pub IfLetCallsMade : List TermEntry → TypedIfLet → Type 0
IfLetCallsMade terms i = CallsAlone (IsMadeTerm terms) i.rhs

-- the same of all expressions of a typed rule
abbrev pub CallsMade : List TermEntry → TypedRule → Type 0
CallsMade terms q = All (IfLetCallsMade terms) q.iflets × CallsAlone (IsMadeTerm terms) q.rhs

-- this is checked, given that it holds wherever the flag is set and nothing was noted before
abbrev pub ChecksUnless : Bool → Type 0 → List Error → List Error → Type 0
ChecksUnless made P old new = (made ≡ true → old ≡ [] → P) → Checks old new P

-- the terms stand at their ids and have names that were met, and each is found by its own
pub record AreTermsNamed (e : Setting) (names : List (List ℕ)) : Type 0 where
  pub placed : (k : ℕ) (t : TermEntry) → slice_get e.terms k ≡ Some t → t.id ≡ k
  pub met : (k : ℕ) (t : TermEntry) → slice_get e.terms k ≡ Some t → t.name < length names
  pub found : (k : ℕ) (t : TermEntry) → slice_get e.terms k ≡ Some t → entry_named t.name e.terms ≡ Some t
  pub once : IsDistinct names
