-- What a list of definitions becomes before its rules are compared: the tables and the typed rules, and which lists
-- have them.
use Rattle.std.specs.Prelude.{◌≡◌, ℕ, ◌<◌, Bool, ◌&&◌, List, [], ◌++◌, length, Option, Some, None, option_map, All, map, slice_get}
use Rattle.std.specs.Bool.{◌==◌}
use Rattle.std.specs.List.{enumerate_from, filter_map}
use Rattle.model.specs.lists.Syntax.{Definition, RuleTree}
use Rattle.model.specs.lists.Names.{number, number_if_met, AreNumbersOf}
use Rattle.model.specs.rules.Meaning.{look}
use Rattle.model.specs.lists.Tables.{VariantEntry, TypeEntry, builtin_type, primitive_type, enum_type, struct_type, TermEntry}
use Rattle.model.specs.rules.Typed.{TypedRule}
use Rattle.model.specs.rules.Program.{Program}
use Rattle.model.specs.lists.TermTable.{rule_trees, IsValidTerms, AllDefined, term_table, term_names_met, converters}
use Rattle.model.specs.lists.TypeTable.{IsValidTypes, constant_types}
use Rattle.model.specs.lists.KnownTypes.{KnownTypes, types_of, IsWellFormed}
use Rattle.model.specs.lists.Setting.{Setting}
use Rattle.model.specs.lists.Elaborated.{TypedRules, RulesElaborate, few_enough, elaborated_rule, most_nested}

-- the types that terms and rules are read with, and the types of the constants by the numbers of their names
pub record TypesRead : Type 0 where
  pub known : KnownTypes
  pub constants : List (ℕ × ℕ)

-- those of a list of definitions
abbrev pub types_read : List Definition → TypesRead
types_read defs = record { known = types_of defs; constants = constant_types defs }

-- the variants of a type
abbrev pub variants_in : TypeEntry → List VariantEntry
variants_in (builtin_type place) = []
variants_in (primitive_type id name at) = []
variants_in (enum_type name id is_extern is_nodebug variants at) = variants
variants_in (struct_type name id is_extern is_nodebug fields at) = []

-- each variant of a type stands at the id that it says
abbrev pub HasVariantsAtIds : TypeEntry → Type 0
HasVariantsAtIds t = (i : ℕ) (v : VariantEntry) → slice_get (variants_in t) i ≡ Some v → v.id ≡ i

-- the types that rules are read with are well formed, variants stand at their ids, and constants have names that were
-- met, and types
pub record AreReadable (e : TypesRead) : Type 0 where
  pub well_formed : IsWellFormed e.known
  pub variants : All HasVariantsAtIds e.known.types
  pub names_of_constants : All (λ c. c.0 < length e.known.names) e.constants
  pub types_of_constants : All (λ c. c.1 < length e.known.types) e.constants

-- the tables that the rules of a list are read with
abbrev pub setting_of : TypesRead → List Definition → Bool → Setting
setting_of e defs expand = record {
  types = e.known.types;
  type_names = map (number e.known.names) e.known.type_names;
  constants = e.constants;
  terms = term_table e.known defs;
  converters = converters e.known defs;
  expand = expand;
}

-- by types that are handed in and can be read, the terms of a list are valid, each declared term is defined, each rule has
-- a typed rule within the limits on expansions, and no two rules have one name
pub record IsElaborated (e : TypesRead) (defs : List Definition) (expand : Bool) (rules : TypedRules) : Type 0 where
  pub readable : AreReadable e
  pub terms : IsValidTerms e.known defs
  pub defined : AllDefined defs
  pub elaborate : RulesElaborate (setting_of e defs expand) (rule_trees defs) (term_names_met e.known defs) rules

abbrev pub HasTypedRules : TypesRead → List Definition → Bool → Type 0
HasTypedRules e defs expand = (rules : TypedRules) × IsElaborated e defs expand rules

-- by its own types: the types are valid too
pub record IsRead (defs : List Definition) (expand : Bool) (rules : TypedRules) : Type 0 where
  pub types : IsValidTypes defs
  pub elaborated : IsElaborated (types_read defs) defs expand rules

-- the program that a list makes, with these rules
abbrev pub program_of : TypesRead → List Definition → List TypedRule → Program
program_of e defs rules = record { types = e.known.types; constants = e.constants; terms = term_table e.known defs; rules = rules }

-- the limit on nesting is passed only where the terms are valid, in a rule that has no typed rule with at most 256
-- expansions nested in one another. A rule that has none at all counts too. Names that rules before it met change the
-- numbers of later ones, and nothing else, so it is read from the names of the terms
pub record PassesNesting (e : TypesRead) (defs : List Definition) (expand : Bool) (id : ℕ) : Type 0 where
  pub terms : IsValidTerms e.known defs
  pub rule : RuleTree
  pub here : slice_get (rule_trees defs) id ≡ Some rule
  pub none : elaborated_rule (setting_of e defs expand) most_nested id rule (term_names_met e.known defs) ≡ None

-- the limit on expansions is passed only where the terms are valid, in a rule that has no typed rule of at most 65,536
-- expansions, however many may nest
pub record PassesExpansions (e : TypesRead) (defs : List Definition) (expand : Bool) (id : ℕ) : Type 0 where
  pub terms : IsValidTerms e.known defs
  pub rule : RuleTree
  pub here : slice_get (rule_trees defs) id ≡ Some rule
  pub none : (d : ℕ) → few_enough (elaborated_rule (setting_of e defs expand) d id rule (term_names_met e.known defs)) ≡ None

-- a look-up answers at every key as the first entry of a list
abbrev pub AnswersBy : (ℕ → Option ℕ) → List (ℕ × ℕ) → Type 0
AnswersBy answer xs = (k : ℕ) → answer k ≡ look (λ n. n == k) xs

abbrev pub ConvertsBy : (ℕ → ℕ → Option ℕ) → List ((ℕ × ℕ) × ℕ) → Type 0
ConvertsBy answer xs = (i o : ℕ) → answer i o ≡ look (λ k. (k.0 == i) && (k.1 == o)) xs

-- the number of the name of each type, with its id
abbrev pub numbered : List (List ℕ) → List (List ℕ) → List (ℕ × ℕ)
numbered names xs = map (λ p. (number names p.1, p.0)) (enumerate_from 0 xs)

-- what a type environment shows: the names by number, and the number that is looked up for a text; the types by id; the
-- type and the constant's type that are looked up for the number of a name; how many errors it keeps
pub record TypeEnvironment : Type 0 where
  pub names : List (List ℕ)
  pub number_of : List ℕ → Option ℕ
  pub types : List TypeEntry
  pub type_of : ℕ → Option ℕ
  pub constant_type_of : ℕ → Option ℕ
  pub errors : ℕ

-- it is one that terms and rules are read with as these types: its look-ups of names find each one at its place and no other
-- text, those of types and constants answer by them, and it keeps no error
pub record IsReadAs (env : TypeEnvironment) (e : TypesRead) : Type 0 where
  pub names : env.names ≡ e.known.names
  pub inverse : AreNumbersOf env.names env.number_of
  pub types : env.types ≡ e.known.types
  pub look_ups : AnswersBy env.type_of (numbered e.known.names e.known.type_names)
  pub constants : AnswersBy env.constant_type_of e.constants
  pub no_errors : env.errors ≡ 0

-- one that shows them
abbrev pub environment_of : TypesRead → TypeEnvironment
environment_of e = record {
  names = e.known.names;
  number_of = number_if_met e.known.names;
  types = e.known.types;
  type_of = λ k. look (λ n. n == k) (numbered e.known.names e.known.type_names);
  constant_type_of = λ k. look (λ n. n == k) e.constants;
  errors = 0;
}

-- the same types and constants with these names: the names go on, and all else stays as it was
abbrev pub with_read_names : TypesRead → List (List ℕ) → TypesRead
with_read_names e names = record e { known = record e.known { names = names } }

-- what reading the types of a list gives. It is refused exactly where the list isn't valid
pub record AreTypesOf (defs : List Definition) (env : TypeEnvironment) : Type 0 where
  pub valid : IsValidTypes defs
  pub shown : IsReadAs env (types_read defs)

-- the terms by the numbers of their names, the rules by those of theirs
abbrev pub terms_by_name : List TermEntry → List (ℕ × ℕ)
terms_by_name terms = map (λ t. (t.name, t.id)) terms

abbrev pub named_id : TypedRule → Option (ℕ × ℕ)
named_id r = option_map (λ n. (n, r.id)) r.name

abbrev pub rules_by_name : List TypedRule → List (ℕ × ℕ)
rules_by_name rules = filter_map named_id rules

-- what a term table shows: the terms by id, the term that is looked up for the number of a name, and the term that converts
-- an inner type into an outer one
pub record TermsShown : Type 0 where
  pub terms : List TermEntry
  pub term_of : ℕ → Option ℕ
  pub converter_of : ℕ → ℕ → Option ℕ

-- it shows the terms of a list, read with these types
pub record ShowsTerms (e : TypesRead) (defs : List Definition) (shown : TermsShown) : Type 0 where
  pub table : shown.terms ≡ term_table e.known defs
  pub look_ups : AnswersBy shown.term_of (terms_by_name (term_table e.known defs))
  pub conversions : ConvertsBy shown.converter_of (converters e.known defs)

-- one that does
abbrev pub shown_terms : TypesRead → List Definition → TermsShown
shown_terms e defs = record {
  terms = term_table e.known defs;
  term_of = λ k. look (λ n. n == k) (terms_by_name (term_table e.known defs));
  converter_of = λ i o. look (λ k. (k.0 == i) && (k.1 == o)) (converters e.known defs);
}

-- what reading the terms of a list gives, by types that are handed in: the table, and in the type environment the names that
-- they meet, where all else stays. It is refused exactly where they aren't valid
pub record AreTermsOf (e : TypesRead) (defs : List Definition) (shown : TermsShown) (env : TypeEnvironment) : Type 0 where
  pub valid : IsValidTerms e.known defs
  pub rows : ShowsTerms e defs shown
  pub types : IsReadAs env (with_read_names e (term_names_met e.known defs))

-- what a term environment shows: terms, the rules by id, the rule that is looked up for the number of a name, and whether
-- internal extractors are expanded
pub record TermEnvironment : Type 0 where
  pub terms : TermsShown
  pub rules : List TypedRule
  pub rule_of : ℕ → Option ℕ
  pub expand : Bool

-- one that shows these typed rules of a list
abbrev pub term_environment_of : TypesRead → List Definition → Bool → List TypedRule → TermEnvironment
term_environment_of e defs expand rules = record { terms = shown_terms e defs; rules = rules; rule_of = λ k. look (λ n. n == k) (rules_by_name rules); expand = expand }

-- what reading the rules of a list gives, by types that are handed in: with what the terms give, the typed rules and all
-- names. It is refused exactly where the list has no typed rules
pub record AreRulesOf (e : TypesRead) (defs : List Definition) (expand : Bool) (rules : TypedRules) (shown : TermEnvironment) (env : TypeEnvironment) : Type 0 where
  pub elaborated : IsElaborated e defs expand rules
  pub rows : ShowsTerms e defs shown.terms
  pub typed : shown.rules ≡ rules.rules
  pub look_ups : AnswersBy shown.rule_of (rules_by_name rules.rules)
  pub flag : shown.expand ≡ expand
  pub types : IsReadAs env (with_read_names e rules.names)

-- what a refusal to read terms or rules leaves of the type environment: more names, and all else as it was
pub record IsLeftByRefusal (e : TypesRead) (env : TypeEnvironment) : Type 0 where
  pub more : List (List ℕ)
  pub types : IsReadAs env (with_read_names e (e.known.names ++ more))
