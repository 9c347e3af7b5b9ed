-- The judge of a list of definitions: whether it has a type table and a term table, by computing.
use Rattle.std.specs.Prelude.{ℕ, Bool, true, false, not, ◌&&◌, ◌||◌, nat_lt, List, [], ◌∷◌, ◌++◌, length, Some, is_some, map, if◌then◌else◌}
use Rattle.std.specs.Bool.{◌==◌}
use Rattle.std.specs.List.{flat_map, list_all}
use Rattle.std.specs.Str.{bytes_eq}
use Rattle.model.specs.lists.Syntax.{Name, FieldTrees, TypeTree, DeclTree, ExtractorTree, ConverterTree, Definition}
use Rattle.model.specs.lists.Names.{has_name, with_names, all_different}
use Rattle.model.specs.lists.TypeTable.{place_from, type_trees, constant_trees, all_type_names, is_primitive, variants_of, field_lists, field_names, field_type_names}
use Rattle.model.specs.lists.KnownTypes.{KnownTypes}
use Rattle.model.specs.lists.TermTable.{decl_trees, rule_trees, constructor_trees, external_trees, extractor_trees, converter_trees, root_name, is_declared, is_declared_multi, has_rules, term_names, term_named, terms_in, arguments_in, argument_count, extractor_template, internal_extractors, external_extractors, external_constructors, converted_pairs, is_defined}

-- whether a name is one of these names of types
abbrev pub is_known_type : List (List ℕ) → Name → Bool
is_known_type types n = is_some (place_from 0 n.text types)

-- whether a type is unmarked if it is primitive
abbrev pub is_unmarked_if_primitive : TypeTree → Bool
is_unmarked_if_primitive t = not (is_primitive t.value) || (not t.is_extern && not t.is_nodebug)

-- whether a type has one mark at most
abbrev pub has_at_most_one_mark : TypeTree → Bool
has_at_most_one_mark t = not (t.is_extern && t.is_nodebug)

-- whether no two variants of a type have one name
abbrev pub has_distinct_variants : TypeTree → Bool
has_distinct_variants t = all_different (variants_of t.value)

-- whether no two fields of a list have one name
abbrev pub has_distinct_fields : FieldTrees → Bool
has_distinct_fields fields = all_different (field_names fields)

-- whether the types of all fields of a list are known
abbrev pub has_known_types : List (List ℕ) → FieldTrees → Bool
has_known_types types fields = list_all (is_known_type types) (field_type_names fields)

-- whether a list of definitions has a type table
abbrev pub has_valid_types : List Definition → Bool
has_valid_types defs =
    all_different (all_type_names defs)
    && list_all is_unmarked_if_primitive (type_trees defs)
    && list_all has_at_most_one_mark (type_trees defs)
    && list_all has_distinct_variants (type_trees defs)
    && list_all has_distinct_fields (field_lists defs)
    && list_all (has_known_types (all_type_names defs)) (field_lists defs)
    && list_all (λ c. is_known_type (all_type_names defs) c.ty) (constant_trees defs)

-- a term, and terms that it comes to through internal extractors
pub record TermUses : Type 0 where
  pub term : List ℕ
  pub comes_to : List (List ℕ)

-- what each internal extractor's pattern names
abbrev pub direct_uses : List Definition → List TermUses
direct_uses defs = map (λ e. record { term = e.term.text; comes_to = map (λ n. n.text) (terms_in e.template) }) (extractor_trees defs)

-- what a term comes to
abbrev pub uses_of : List TermUses → List ℕ → List (List ℕ)
uses_of uses x = flat_map (λ u. if bytes_eq u.term x then u.comes_to else []) uses

-- what comes to this term comes to all that it comes to
abbrev pub with_uses_of : List ℕ → List TermUses → TermUses → TermUses
with_uses_of x uses u = if has_name u.comes_to x then record { term = u.term; comes_to = with_names u.comes_to (uses_of uses x) } else u

abbrev pub through_term : List ℕ → List TermUses → List TermUses
through_term x uses = map (with_uses_of x uses) uses

-- the same through each of these terms in turn
abbrev pub through_terms : List (List ℕ) → List TermUses → List TermUses
through_terms [] uses = uses
through_terms (x ∷ xs) uses = through_terms xs (through_term x uses)

-- all terms that the terms of internal extractors come to
abbrev pub all_uses : List Definition → List TermUses
all_uses defs = through_terms (internal_extractors defs) (direct_uses defs)

-- whether no term comes back to itself through internal extractors
abbrev pub is_acyclic : List Definition → Bool
is_acyclic defs = list_all (λ u. not (has_name u.comes_to u.term)) (all_uses defs)

-- whether the types of a declaration's arguments are known
abbrev pub has_known_arguments : KnownTypes → DeclTree → Bool
has_known_arguments k d = list_all (is_known_type k.type_names) d.arg_tys

-- whether a name is that of a term
abbrev pub is_known_term : KnownTypes → List Definition → Name → Bool
is_known_term k defs n = is_some (term_named k defs n.text)

-- whether the pattern of an internal extractor names known terms
abbrev pub names_known_terms : KnownTypes → List Definition → ExtractorTree → Bool
names_known_terms k defs e = list_all (is_known_term k defs) (terms_in e.template)

-- whether the template of an internal extractor uses no argument past those that its term is declared with
abbrev pub uses_declared_arguments : List Definition → ExtractorTree → Bool
uses_declared_arguments defs e = list_all (λ i. nat_lt i (argument_count defs e.term.text)) (arguments_in (extractor_template e))

-- whether a converter is a known term, from a known type to a known type
abbrev pub is_known_converter : KnownTypes → List Definition → ConverterTree → Bool
is_known_converter k defs c = is_known_term k defs c.term && (is_known_type k.type_names c.inner_ty && is_known_type k.type_names c.outer_ty)

-- whether a pair of names is among others
abbrev pub has_pair : List (List ℕ × List ℕ) → List ℕ × List ℕ → Bool
has_pair [] p = false
has_pair (q ∷ qs) p = (bytes_eq q.0 p.0 && bytes_eq q.1 p.1) || has_pair qs p

-- whether no pair of names stands twice
abbrev pub all_pairs_different : List (List ℕ × List ℕ) → Bool
all_pairs_different [] = true
all_pairs_different (p ∷ ps) = not (has_pair ps p) && all_pairs_different ps

-- whether a list of definitions, read with these types, has a term table
abbrev pub has_valid_terms : KnownTypes → List Definition → Bool
has_valid_terms k defs =
    all_different (term_names k defs)
    && list_all (has_known_arguments k) (decl_trees defs)
    && list_all (λ d. is_known_type k.type_names d.ret_ty) (decl_trees defs)
    && list_all (λ d. not (d.multi && d.partial)) (decl_trees defs)
    && list_all (λ r. is_declared defs (root_name r.pattern)) (rule_trees defs)
    && list_all (λ e. is_declared defs (Some e.term)) (extractor_trees defs)
    && list_all (λ e. is_declared defs (Some e.term)) (external_trees defs)
    && list_all (λ c. is_declared defs (Some c.term)) (constructor_trees defs)
    && list_all (λ c. not (has_rules defs c.term.text)) (constructor_trees defs)
    && all_different (external_constructors defs)
    && all_different (internal_extractors defs ++ external_extractors defs)
    && list_all (λ e. not (is_declared_multi defs e.term.text)) (extractor_trees defs)
    && list_all (names_known_terms k defs) (extractor_trees defs)
    && list_all (λ e. length (arguments_in e.template) == 0) (extractor_trees defs)
    && list_all (uses_declared_arguments defs) (extractor_trees defs)
    && is_acyclic defs
    && list_all (is_known_converter k defs) (converter_trees defs)
    && all_pairs_different (converted_pairs defs)

-- whether each declared term has rules, an external constructor or an extractor
abbrev pub all_defined : List Definition → Bool
all_defined defs = list_all (λ d. is_defined defs d.term.text) (decl_trees defs)
