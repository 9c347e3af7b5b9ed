-- What rules are read with: the tables, and what a rule's names and variables are so far.
use Rattle.std.specs.Prelude.{ℕ, Bool, true, not, ◌&&◌, ◌||◌, List, [], ◌∷◌, ◌++◌, Option, Some, None, is_some, slice_get, if◌then◌else◌, length}
use Rattle.std.specs.Bool.{◌==◌}
use Rattle.std.specs.List.{position_from}
use Rattle.model.specs.lists.Syntax.{PatternTree}
use Rattle.model.specs.lists.Names.{number, with_name}
use Rattle.model.specs.rules.Outcome.{then_option}
use Rattle.model.specs.lists.Tables.{TypeEntry, Flags, ExtractorEntry, internal_extractor, external_extractor, TermKindEntry, declared_term, TermEntry}
use Rattle.model.specs.rules.Meaning.{look}
use Rattle.model.specs.rules.Typed.{TypedExpr, make_term, make_var, make_bool, make_int, make_prim, make_let, TypedVar}

abbrev pub new_var : List TypedVar → ℕ → ℕ → TypedVar
new_var vars name ty = record { id = length vars; name = name; ty = ty }

-- the variable of a name that is bound
abbrev pub var_named : ℕ → List TypedVar → Option TypedVar
var_named name [] = None
var_named name (v ∷ vs) = if v.name == name then Some v else var_named name vs

-- types by id, and the numbers of the names that their definitions give them; the types of named constants by the number
-- of the name; terms by id; converters by inner and outer type; whether internal extractors are expanded
pub record Setting : Type 0 where
  pub types : List TypeEntry
  pub type_names : List ℕ
  pub constants : List (ℕ × ℕ)
  pub terms : List TermEntry
  pub converters : List ((ℕ × ℕ) × ℕ)
  pub expand : Bool

-- the names met so far, each at its number; the variables that can be used, the newest first; all variables, in the
-- order bound
pub record Scope : Type 0 where
  pub names : List (List ℕ)
  pub visible : List TypedVar
  pub vars : List TypedVar

-- no variable yet
abbrev pub new_scope : List (List ℕ) → Scope
new_scope names = record { names = names; visible = []; vars = [] }

-- a name was met
abbrev pub met : Scope → List ℕ → Scope
met s x = record s { names = with_name s.names x }

-- a name was bound, over any older variable of that name
abbrev pub bound : Scope → List ℕ → ℕ → Scope
bound s x ty = record {
  names = with_name s.names x;
  visible = new_var s.vars (number (with_name s.names x) x) ty ∷ s.visible;
  vars = s.vars ++ new_var s.vars (number (with_name s.names x) x) ty ∷ [];
}

-- after a let: what can be used is what could be used before it
abbrev pub after_let : Scope → Scope → Scope
after_let before s = record s { visible = before.visible }

-- the newest variable of a name
abbrev pub var_of : Scope → List ℕ → Option TypedVar
var_of s x = var_named (number s.names x) s.visible

-- the term whose name has a number
abbrev pub entry_named : ℕ → List TermEntry → Option TermEntry
entry_named name [] = None
entry_named name (t ∷ ts) = if t.name == name then Some t else entry_named name ts

-- the term of a name
abbrev pub term_of : Setting → Scope → List ℕ → Option TermEntry
term_of e s x = entry_named (number s.names x) e.terms

-- the type of a name
abbrev pub type_of_name : Setting → Scope → List ℕ → Option ℕ
type_of_name e s x = position_from (λ n. n == number s.names x) 0 e.type_names

-- the type of a named constant
abbrev pub type_of_constant : Setting → Scope → List ℕ → Option ℕ
type_of_constant e s x = look (λ n. n == number s.names x) e.constants

-- the type of booleans
abbrev pub bool_type : ℕ
bool_type = 0

-- the type of what an expression makes
abbrev pub expr_type : TypedExpr → ℕ
expr_type (make_term ty term args) = ty
expr_type (make_var ty x) = ty
expr_type (make_bool ty b) = ty
expr_type (make_int ty z) = ty
expr_type (make_prim ty name) = ty
expr_type (make_let ty defs body) = ty

-- whether an expression of a type may stand where a type, or any type, is expected
abbrev pub is_expected : Option ℕ → ℕ → Bool
is_expected None ty = true
is_expected (Some t) ty = ty == t

-- variants and structs can be made and taken apart, declared terms where there is something that does it
abbrev pub has_constructor : TermKindEntry → Bool
has_constructor (declared_term flags constructor_kind extractor_kind) = is_some constructor_kind
has_constructor _ = true

-- likewise for patterns
abbrev pub has_extractor : TermKindEntry → Bool
has_extractor (declared_term flags constructor_kind extractor_kind) = is_some extractor_kind
has_extractor _ = true

-- the flags of a term that can have rules
abbrev pub declared_flags : TermKindEntry → Option Flags
declared_flags (declared_term flags constructor_kind extractor_kind) = Some flags
declared_flags _ = None

-- the flags in force in an if-let's expression
abbrev pub on_lhs : Flags → Flags
on_lhs flags = record flags { pure = true; partial = true }

-- whether the flags in force allow a call: pure ones only calls of pure terms, others than multi ones none of multi
-- terms, others than partial ones none of partial terms
abbrev pub allow : Flags → Flags → Bool
allow flags own = (not flags.pure || own.pure) && ((flags.multi || not own.multi) && (flags.partial || not own.partial))

-- whether an expression may use a term: it has a constructor, and the flags in force allow it
abbrev pub is_callable : Flags → TermKindEntry → Bool
is_callable flags (declared_term own constructor_kind extractor_kind) = is_some constructor_kind && allow flags own
is_callable flags _ = true

-- whether a pattern of a rule may use a term: it has an extractor, and only the rules of a multi term use multi ones
abbrev pub is_matchable : Bool → TermKindEntry → Bool
is_matchable multi (declared_term own constructor_kind extractor_kind) = is_some extractor_kind && (multi || not own.multi)
is_matchable multi _ = true

-- the template of an internal extractor
abbrev pub entry_template : Option ExtractorEntry → Option PatternTree
entry_template None = None
entry_template (Some (internal_extractor template)) = Some template
entry_template (Some (external_extractor name infallible at)) = None

-- the template of a term that has one
abbrev pub kind_template : TermKindEntry → Option PatternTree
kind_template (declared_term flags constructor_kind extractor_kind) = entry_template extractor_kind
kind_template _ = None

-- the template that stands for a term in patterns, where internal extractors are expanded
abbrev pub template_in : Setting → TermKindEntry → Option PatternTree
template_in e kind = if e.expand then kind_template kind else None

-- the term that converts from an inner type to an outer one, where it can be used
abbrev pub converter : Setting → ℕ → ℕ → Option TermEntry
converter e inner outer = then_option (look (λ k. (k.0 == inner) && (k.1 == outer)) e.converters) (slice_get e.terms)

-- a term that passes a test
abbrev pub that : (TermEntry → Bool) → Option TermEntry → Option TermEntry
that p None = None
that p (Some t) = if p t then Some t else None

-- the converter between two types, if it converts patterns
abbrev pub pattern_converter : Setting → ℕ → ℕ → Option TermEntry
pattern_converter e inner outer = that (λ t. has_extractor t.kind) (converter e inner outer)

-- the converter between two types, if it converts expressions
abbrev pub expr_converter : Setting → ℕ → ℕ → Option TermEntry
expr_converter e inner outer = that (λ t. has_constructor t.kind) (converter e inner outer)
