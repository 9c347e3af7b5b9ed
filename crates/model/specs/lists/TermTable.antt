-- Which lists of definitions have a term table when they are read with known types, and the table: the terms, the names
-- and the converters.
use Rattle.std.specs.Prelude.{ℕ, ◌<◌, Bool, false, not, ◌&&◌, ◌||◌, ◌≡◌, List, [], ◌∷◌, ◌++◌, length, Option, Some, None, option_map, unwrap_or, All, Contains, IsTrue, map, is_some, slice_get, if◌then◌else◌}
use Rattle.std.specs.List.{flat_map, filter_map, enumerate_from, list_any, find, position_from}
use Rattle.std.specs.Str.{bytes_eq}
use Rattle.model.specs.lists.Syntax.{Position, Name, PatternTree, var_pattern, bind_pattern, bool_pattern, int_pattern, prim_pattern, term_pattern, wildcard_pattern, and_pattern, macro_arg, PatternTrees, no_pattern, pattern_and, DeclTree, ExtractorTree, ConverterTree, RuleTree, Definition, extractor_definition, converter_definition, extern_definition, extern_constructor, extern_extractor, declaration, rule_definition}
use Rattle.model.specs.lists.Names.{number, has_name, with_names, IsDistinct}
use Rattle.model.specs.rules.Values.{field_types}
use Rattle.model.specs.lists.Tables.{FieldEntries, VariantEntry, TypeEntry, builtin_type, primitive_type, enum_type, struct_type, ConstructorEntry, internal_constructor, external_constructor, ExtractorEntry, internal_extractor, external_extractor, variant_term, struct_term, declared_term, TermEntry, Flags}
use Rattle.model.specs.lists.TypeTable.{place_from, IsKnownType}
use Rattle.model.specs.lists.KnownTypes.{KnownTypes, known_type}

abbrev pub decl_of : Definition → List DeclTree
decl_of (declaration d) = d ∷ []
decl_of _ = []

abbrev pub rule_of : Definition → List RuleTree
rule_of (rule_definition r) = r ∷ []
rule_of _ = []

-- the declarations and the rules, each in order: the i-th declaration, from 0, is term i, the i-th rule is rule i
abbrev pub decl_trees : List Definition → List DeclTree
decl_trees defs = flat_map decl_of defs

abbrev pub rule_trees : List Definition → List RuleTree
rule_trees defs = flat_map rule_of defs

abbrev pub decl_names : List Definition → List (List ℕ)
decl_names defs = map (λ d. d.term.text) (decl_trees defs)

-- the id of the term of a name
abbrev pub term_id : List Definition → List ℕ → Option ℕ
term_id defs x = place_from 0 x (decl_names defs)

abbrev pub root_name : PatternTree → Option Name
root_name (term_pattern term args at) = Some term
root_name _ = None

-- whether a rule is one of this term
abbrev pub has_root : List ℕ → Option Name → Bool
has_root x None = false
has_root x (Some n) = bytes_eq n.text x

abbrev pub is_rule_of : List ℕ → RuleTree → Bool
is_rule_of x r = has_root x (root_name r.pattern)

abbrev pub is_declared : List Definition → Option Name → Bool
is_declared defs None = false
is_declared defs (Some n) = is_some (term_id defs n.text)

abbrev pub decl_flags : DeclTree → Flags
decl_flags d = record { pure = d.pure; multi = d.multi; partial = d.partial; rec = d.rec }

-- an external constructor: its term and its function
pub record ConstructorTree : Type 0 where
  pub term : Name
  pub function : Name

-- an external extractor: its term, its function, whether it always answers, and where it stands
pub record ExternalTree : Type 0 where
  pub term : Name
  pub function : Name
  pub infallible : Bool
  pub at : Position

-- the external constructor that a definition is
abbrev pub external_constructor_of : Definition → List ConstructorTree
external_constructor_of (extern_definition (extern_constructor term function at)) = record { term = term; function = function } ∷ []
external_constructor_of _ = []

-- the external extractor that a definition is
abbrev pub external_extractor_of : Definition → List ExternalTree
external_extractor_of (extern_definition (extern_extractor term function at infallible)) = record { term = term; function = function; infallible = infallible; at = at } ∷ []
external_extractor_of _ = []

-- the internal extractor that a definition is
abbrev pub extractor_of : Definition → List ExtractorTree
extractor_of (extractor_definition e) = e ∷ []
extractor_of _ = []

-- the converter that a definition is
abbrev pub converter_of : Definition → List ConverterTree
converter_of (converter_definition c) = c ∷ []
converter_of _ = []

-- the name of the function that a definition of an external constructor or extractor names
abbrev pub function_of : Definition → List (List ℕ)
function_of (extern_definition (extern_constructor term function at)) = function.text ∷ []
function_of (extern_definition (extern_extractor term function at infallible)) = function.text ∷ []
function_of _ = []

-- the external constructors, in order
abbrev pub constructor_trees : List Definition → List ConstructorTree
constructor_trees defs = flat_map external_constructor_of defs

-- the external extractors, in order
abbrev pub external_trees : List Definition → List ExternalTree
external_trees defs = flat_map external_extractor_of defs

-- the internal extractors, in order
abbrev pub extractor_trees : List Definition → List ExtractorTree
extractor_trees defs = flat_map extractor_of defs

-- the converters, in order
abbrev pub converter_trees : List Definition → List ConverterTree
converter_trees defs = flat_map converter_of defs

-- the names of the terms that a type makes, by number: the full name of each variant, or the struct's name
abbrev pub made_by : TypeEntry → List ℕ
made_by (builtin_type place) = []
made_by (primitive_type id name at) = []
made_by (enum_type name id is_extern is_nodebug variants at) = map (λ v. v.full_name) variants
made_by (struct_type name id is_extern is_nodebug fields at) = name ∷ []

-- the names of all terms, each at its id: the declared terms, then, types ascending, each variant and struct
abbrev pub term_names : KnownTypes → List Definition → List (List ℕ)
term_names k defs = decl_names defs ++ filter_map (slice_get k.names) (flat_map made_by k.types)

-- the names met before, then the declared terms, then the external functions, by first meeting
abbrev pub term_names_met : KnownTypes → List Definition → List (List ℕ)
term_names_met k defs = with_names k.names (decl_names defs ++ flat_map function_of defs)

-- the id of the term of a name
abbrev pub term_named : KnownTypes → List Definition → List ℕ → Option ℕ
term_named k defs x = place_from 0 x (term_names k defs)

-- an argument in the place of a form, where there is one
abbrev pub argument_or : Option ℕ → Position → PatternTree → PatternTree
argument_or None at p = p
argument_or (Some i) at p = macro_arg i at

-- a binding over a wildcard is that argument, any other is kept
abbrev pub binding_or : Option ℕ → Name → PatternTree → Position → PatternTree
binding_or i name (wildcard_pattern w) at = argument_or i at (bind_pattern name (wildcard_pattern w) at)
binding_or i name p at = bind_pattern name p at

-- the template that a pattern is, for arguments of these names: the first place of a name counts
abbrev mutual
  pub template : List (List ℕ) → PatternTree → PatternTree
  template args (var_pattern name at) = argument_or (position_from (bytes_eq name.text) 0 args) at (var_pattern name at)
  template args (bind_pattern name p at) = binding_or (position_from (bytes_eq name.text) 0 args) name (template args p) at
  template args (term_pattern term ps at) = term_pattern term (templates args ps) at
  template args (and_pattern ps at) = and_pattern (templates args ps) at
  template args (bool_pattern b at) = bool_pattern b at
  template args (int_pattern z at) = int_pattern z at
  template args (prim_pattern name at) = prim_pattern name at
  template args (wildcard_pattern at) = wildcard_pattern at
  template args (macro_arg i at) = macro_arg i at

  pub templates : List (List ℕ) → PatternTrees → PatternTrees
  templates args no_pattern = no_pattern
  templates args (pattern_and p ps) = pattern_and (template args p) (templates args ps)

-- the template of an extractor's definition
abbrev pub extractor_template : ExtractorTree → PatternTree
extractor_template e = template (map (λ n. n.text) e.args) e.template

-- the terms that a pattern names, each with where it stands, an outer one before its parts
abbrev mutual
  pub terms_of : PatternTree → List (Position × Name)
  terms_of (bind_pattern name p at) = terms_of p
  terms_of (term_pattern term ps at) = (at, term) ∷ terms_of_all ps
  terms_of (and_pattern ps at) = terms_of_all ps
  terms_of _ = []

  pub terms_of_all : PatternTrees → List (Position × Name)
  terms_of_all no_pattern = []
  terms_of_all (pattern_and p ps) = terms_of p ++ terms_of_all ps

-- their names
abbrev pub terms_in : PatternTree → List Name
terms_in p = map (λ t. t.1) (terms_of p)

-- the arguments that a pattern uses as a template, by number
abbrev mutual
  pub arguments_in : PatternTree → List ℕ
  arguments_in (bind_pattern name p at) = arguments_in p
  arguments_in (term_pattern term ps at) = arguments_in_all ps
  arguments_in (and_pattern ps at) = arguments_in_all ps
  arguments_in (macro_arg i at) = i ∷ []
  arguments_in _ = []

  pub arguments_in_all : PatternTrees → List ℕ
  arguments_in_all no_pattern = []
  arguments_in_all (pattern_and p ps) = arguments_in p ++ arguments_in_all ps

-- the declaration of a term
abbrev pub decl_named : List Definition → List ℕ → Option DeclTree
decl_named defs x = find (λ d. bytes_eq d.term.text x) (decl_trees defs)

-- how many arguments a declared term has
abbrev pub argument_count : List Definition → List ℕ → ℕ
argument_count defs x = unwrap_or (option_map (λ d. length d.arg_tys) (decl_named defs x)) 0

-- whether a term is declared multi
abbrev pub is_declared_multi : List Definition → List ℕ → Bool
is_declared_multi defs x = unwrap_or (option_map (λ d. d.multi) (decl_named defs x)) false

-- a name is that of a declared term
abbrev pub IsDeclaredTerm : List Definition → Name → Type 0
IsDeclaredTerm defs n = IsTrue (is_declared defs (Some n))

-- a name is that of a term: a declared one, a variant or a struct
abbrev pub IsKnownTerm : KnownTypes → List Definition → Name → Type 0
IsKnownTerm k defs n = IsTrue (is_some (term_named k defs n.text))

-- a term has rules
abbrev pub has_rules : List Definition → List ℕ → Bool
has_rules defs x = list_any (is_rule_of x) (rule_trees defs)

-- the terms of the internal extractors, in order
abbrev pub internal_extractors : List Definition → List (List ℕ)
internal_extractors defs = map (λ e. e.term.text) (extractor_trees defs)

-- the terms of the external extractors, in order
abbrev pub external_extractors : List Definition → List (List ℕ)
external_extractors defs = map (λ e. e.term.text) (external_trees defs)

-- the terms of the external constructors, in order
abbrev pub external_constructors : List Definition → List (List ℕ)
external_constructors defs = map (λ c. c.term.text) (constructor_trees defs)

-- the pairs of types of the converters, by name, inner type first
abbrev pub converted_pairs : List Definition → List (List ℕ × List ℕ)
converted_pairs defs = map (λ c. (c.inner_ty.text, c.outer_ty.text)) (converter_trees defs)

-- the pattern of an internal extractor of a term names a term
pub record Uses (defs : List Definition) (t u : List ℕ) : Type 0 where
  pub definition : ExtractorTree
  pub there : Contains (extractor_trees defs) definition
  pub of_term : definition.term.text ≡ t
  pub calls : Contains (map (λ n. n.text) (terms_in definition.template)) u

-- a term comes to a term through one or more internal extractors
pub data Reaches (defs : List Definition) : List ℕ → List ℕ → Type 0 where
  directly : {t u : List ℕ} → Uses defs t u → Reaches defs t u
  through : {t u v : List ℕ} → Uses defs t u → Reaches defs u v → Reaches defs t v

-- no term comes back to itself through internal extractors
abbrev pub IsAcyclic : List Definition → Type 0
IsAcyclic defs = (t : List ℕ) → Reaches defs t t → ⊥

-- the types of a declaration's arguments are known
abbrev pub HasKnownArguments : KnownTypes → DeclTree → Type 0
HasKnownArguments k d = All (IsKnownType k.type_names) d.arg_tys

-- the type of a declaration's result is known
abbrev pub HasKnownResult : KnownTypes → DeclTree → Type 0
HasKnownResult k d = IsKnownType k.type_names d.ret_ty

-- a declaration is not multi and partial at once; it may be neither
abbrev pub IsNotBothMultiAndPartial : DeclTree → Type 0
IsNotBothMultiAndPartial d = IsTrue (not (d.multi && d.partial))

-- the left side of a rule is a declared term
abbrev pub HasDeclaredRoot : List Definition → RuleTree → Type 0
HasDeclaredRoot defs r = IsTrue (is_declared defs (root_name r.pattern))

-- a term with an external constructor has no rules
abbrev pub IsWithoutRules : List Definition → ConstructorTree → Type 0
IsWithoutRules defs c = IsTrue (not (has_rules defs c.term.text))

-- an internal extractor is of a term that isn't multi
abbrev pub IsOfPlainTerm : List Definition → ExtractorTree → Type 0
IsOfPlainTerm defs e = IsTrue (not (is_declared_multi defs e.term.text))

-- the pattern of an internal extractor names known terms
abbrev pub NamesKnownTerms : KnownTypes → List Definition → ExtractorTree → Type 0
NamesKnownTerms k defs e = All (IsKnownTerm k defs) (terms_in e.template)

-- the pattern of an internal extractor holds no macro argument: these come with its template
abbrev pub HoldsNoMacroArg : ExtractorTree → Type 0
HoldsNoMacroArg e = arguments_in e.template ≡ []

-- the template of an internal extractor uses no argument past those that its term is declared with
abbrev pub UsesDeclaredArguments : List Definition → ExtractorTree → Type 0
UsesDeclaredArguments defs e = All (λ i. i < argument_count defs e.term.text) (arguments_in (extractor_template e))

-- a converter is a known term, from a known type to a known type
abbrev pub IsKnownConverter : KnownTypes → List Definition → ConverterTree → Type 0
IsKnownConverter k defs c = IsKnownTerm k defs c.term × IsKnownType k.type_names c.inner_ty × IsKnownType k.type_names c.outer_ty

-- what a list of definitions, read with these types, must meet to have a term table: no two terms have one name, variants and structs included;
-- the types of declarations are known, and none is both multi and partial; rules, extractors and external functions are
-- those of declared terms; no term has rules and an external constructor, none has two external constructors or two
-- extractors, and a multi term has no internal extractor; templates are as said above, and none comes back to itself;
-- converters are known, one for each pair of types
pub record IsValidTerms (k : KnownTypes) (defs : List Definition) : Type 0 where
  pub distinct : IsDistinct (term_names k defs)
  pub types_of_arguments : All (HasKnownArguments k) (decl_trees defs)
  pub types_of_results : All (HasKnownResult k) (decl_trees defs)
  pub marks : All IsNotBothMultiAndPartial (decl_trees defs)
  pub roots : All (HasDeclaredRoot defs) (rule_trees defs)
  pub terms_of_extractors : All (λ e. IsDeclaredTerm defs e.term) (extractor_trees defs)
  pub terms_of_externals : All (λ e. IsDeclaredTerm defs e.term) (external_trees defs)
  pub terms_of_constructors : All (λ c. IsDeclaredTerm defs c.term) (constructor_trees defs)
  pub rules_or_function : All (IsWithoutRules defs) (constructor_trees defs)
  pub one_constructor : IsDistinct (external_constructors defs)
  pub one_extractor : IsDistinct (internal_extractors defs ++ external_extractors defs)
  pub plain_terms : All (IsOfPlainTerm defs) (extractor_trees defs)
  pub known_terms : All (NamesKnownTerms k defs) (extractor_trees defs)
  pub no_macro_args : All HoldsNoMacroArg (extractor_trees defs)
  pub declared_arguments : All (UsesDeclaredArguments defs) (extractor_trees defs)
  pub acyclic : IsAcyclic defs
  pub known_converters : All (IsKnownConverter k defs) (converter_trees defs)
  pub one_converter : IsDistinct (converted_pairs defs)

-- whether a term has something that makes it: rules, an external constructor or an extractor
abbrev pub is_defined : List Definition → List ℕ → Bool
is_defined defs x = has_rules defs x || has_name (external_constructors defs) x || has_name (internal_extractors defs) x || has_name (external_extractors defs) x

-- a declared term has something that makes it
abbrev pub IsDefined : List Definition → DeclTree → Type 0
IsDefined defs d = IsTrue (is_defined defs d.term.text)

-- each declared term has rules, an external constructor or an extractor
abbrev pub AllDefined : List Definition → Type 0
AllDefined defs = All (IsDefined defs) (decl_trees defs)

-- the entry that a variant of a type becomes, when it is the term of an id
abbrev pub variant_as_term : ℕ → VariantEntry → ℕ → TermEntry
variant_as_term ty v id = record { id = id; at = v.at; name = v.full_name; arg_tys = field_types v.fields; ret_ty = ty; kind = variant_term v.id }

-- the entry that a struct becomes, when it is the term of an id
abbrev pub struct_as_term : ℕ → ℕ → FieldEntries → Position → ℕ → TermEntry
struct_as_term name ty fields at id = record { id = id; at = at; name = name; arg_tys = field_types fields; ret_ty = ty; kind = struct_term }

-- the terms that a type makes, when their ids are known
abbrev pub terms_made : TypeEntry → List (ℕ → TermEntry)
terms_made (builtin_type place) = []
terms_made (primitive_type id name at) = []
terms_made (enum_type name id is_extern is_nodebug variants at) = map (variant_as_term id) variants
terms_made (struct_type name id is_extern is_nodebug fields at) = struct_as_term name id fields at ∷ []

-- what makes a declared term: its rules, or its external constructor, by the number of the function's name
abbrev pub constructor_kind : List Definition → List (List ℕ) → List ℕ → Option ConstructorEntry
constructor_kind defs names x =
    if has_rules defs x then Some internal_constructor
    else option_map (λ c. external_constructor (number names c.function.text)) (find (λ c. bytes_eq c.term.text x) (constructor_trees defs))

-- what takes a declared term apart: its internal extractor's template, or its external extractor
abbrev pub extractor_kind : List Definition → List (List ℕ) → List ℕ → Option ExtractorEntry
extractor_kind defs names x =
    if has_name (internal_extractors defs) x then option_map (λ e. internal_extractor (extractor_template e)) (find (λ e. bytes_eq e.term.text x) (extractor_trees defs))
    else option_map (λ e. external_extractor (number names e.function.text) e.infallible e.at) (find (λ e. bytes_eq e.term.text x) (external_trees defs))

-- the entry of a declared term of an id
abbrev pub decl_as_term : KnownTypes → List Definition → List (List ℕ) → DeclTree → ℕ → TermEntry
decl_as_term k defs names d id = record {
  id = id;
  at = d.at;
  name = number names d.term.text;
  arg_tys = map (known_type k) d.arg_tys;
  ret_ty = known_type k d.ret_ty;
  kind = declared_term (decl_flags d) (constructor_kind defs names d.term.text) (extractor_kind defs names d.term.text);
}

-- all terms of a valid list, when their ids are known: the declared ones, then, types ascending, each variant and struct
abbrev pub terms_in_order : KnownTypes → List Definition → List (ℕ → TermEntry)
terms_in_order k defs = map (decl_as_term k defs (term_names_met k defs)) (decl_trees defs) ++ flat_map terms_made k.types

-- the terms of a valid list, each at its id
abbrev pub term_table : KnownTypes → List Definition → List TermEntry
term_table k defs = map (λ p. p.1 p.0) (enumerate_from 0 (terms_in_order k defs))

-- the id of a known term: 0 where it isn't known, which no valid list has
abbrev pub known_term : KnownTypes → List Definition → Name → ℕ
known_term k defs n = unwrap_or (term_named k defs n.text) 0

-- the term that converts a type into another one, by inner and outer type
abbrev pub converters : KnownTypes → List Definition → List ((ℕ × ℕ) × ℕ)
converters k defs = map (λ c. ((known_type k c.inner_ty, known_type k c.outer_ty), known_term k defs c.term)) (converter_trees defs)
