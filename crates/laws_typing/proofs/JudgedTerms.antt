-- The judge of terms is exact.
use Rattle.std.proofs.Common.{◌≡◌, ℕ, ◌==◌, false, not, ◌&&◌, List, [], ◌++◌, length, Some, All, Decides, arith}
use Rattle.std.proofs.lemmas.Grind.{common_steps}
use Rattle.std.specs.List.{list_all}
use Rattle.std.proofs.lemmas.Bool.Decides.{Decides-like, Decides-eqb, not_from_Decides}
use Rattle.model.specs.lists.Syntax.{Name, ConverterTree, Definition}
use Rattle.model.specs.lists.TypeTable.{IsKnownType}
use Rattle.model.specs.lists.KnownTypes.{KnownTypes}
use Rattle.model.specs.lists.TermTable.{decl_trees, rule_trees, constructor_trees, external_trees, extractor_trees, converter_trees, root_name, is_declared, is_declared_multi, has_rules, term_names, terms_in, arguments_in, argument_count, extractor_template, internal_extractors, external_extractors, external_constructors, converted_pairs, is_defined, IsDeclaredTerm, IsKnownTerm, HasKnownArguments, HasKnownResult, IsNotBothMultiAndPartial, HasDeclaredRoot, IsWithoutRules, IsOfPlainTerm, NamesKnownTerms, HoldsNoMacroArg, UsesDeclaredArguments, IsKnownConverter, IsValidTerms, IsDefined}
use Rattle.model.specs.lists.ListJudge.{is_known_type, has_known_arguments, is_known_term, names_known_terms, uses_declared_arguments, is_known_converter, has_valid_terms}
use Rattle.laws_typing.specs.JudgeLaws.{TermsAreJudged, DefinedAreJudged}
use Rattle.laws_typing.proofs.DistinctLists.{names_differ, pairs_differ}
use Rattle.laws_typing.proofs.JudgedTypes.{itself, both, each, below}
use Rattle.laws_typing.proofs.UsesFound.{cycles_are_found_lem}

holds_none : (xs : List ℕ) → Decides (length xs == 0) (xs ≡ [])
holds_none xs = grind (arith, common_steps, Decides-eqb)

known : (k : KnownTypes) (ns : List Name) → Decides (list_all (is_known_type k.type_names) ns) (All (IsKnownType k.type_names) ns)
known k ns = each (is_known_type k.type_names) (IsKnownType k.type_names) (λ n. itself (is_known_type k.type_names n)) ns

converts : (k : KnownTypes) (defs : List Definition) (c : ConverterTree) → Decides (is_known_converter k defs c) (IsKnownConverter k defs c)
converts k defs c = grind (arith, common_steps, Decides-like, both, itself)

pub terms_are_judged_lem : TermsAreJudged
terms_are_judged_lem k defs =
    Decides-like (has_valid_terms k defs)
    (λ h. record {
      distinct = h.0.0.0.0.0.0.0.0.0.0.0.0.0.0.0.0.0;
      types_of_arguments = h.0.0.0.0.0.0.0.0.0.0.0.0.0.0.0.0.1;
      types_of_results = h.0.0.0.0.0.0.0.0.0.0.0.0.0.0.0.1;
      marks = h.0.0.0.0.0.0.0.0.0.0.0.0.0.0.1;
      roots = h.0.0.0.0.0.0.0.0.0.0.0.0.0.1;
      terms_of_extractors = h.0.0.0.0.0.0.0.0.0.0.0.0.1;
      terms_of_externals = h.0.0.0.0.0.0.0.0.0.0.0.1;
      terms_of_constructors = h.0.0.0.0.0.0.0.0.0.0.1;
      rules_or_function = h.0.0.0.0.0.0.0.0.0.1;
      one_constructor = h.0.0.0.0.0.0.0.0.1;
      one_extractor = h.0.0.0.0.0.0.0.1;
      plain_terms = h.0.0.0.0.0.0.1;
      known_terms = h.0.0.0.0.0.1;
      no_macro_args = h.0.0.0.0.1;
      declared_arguments = h.0.0.0.1;
      acyclic = h.0.0.1;
      known_converters = h.0.1;
      one_converter = h.1;
    })
    (λ v. (((((((((((((((((v.distinct, v.types_of_arguments), v.types_of_results), v.marks), v.roots), v.terms_of_extractors), v.terms_of_externals), v.terms_of_constructors), v.rules_or_function), v.one_constructor), v.one_extractor), v.plain_terms), v.known_terms), v.no_macro_args), v.declared_arguments), v.acyclic), v.known_converters), v.one_converter))
    (both (both (both (both (both (both (both (both (both (both (both (both (both (both (both (both (both
    (names_differ (term_names k defs))
    (each (has_known_arguments k) (HasKnownArguments k) (λ d. known k d.arg_tys) (decl_trees defs)))
    (each (λ d. is_known_type k.type_names d.ret_ty) (HasKnownResult k) (λ d. itself (is_known_type k.type_names d.ret_ty)) (decl_trees defs)))
    (each (λ d. not (d.multi && d.partial)) IsNotBothMultiAndPartial (λ d. itself (not (d.multi && d.partial))) (decl_trees defs)))
    (each (λ r. is_declared defs (root_name r.pattern)) (HasDeclaredRoot defs) (λ r. itself (is_declared defs (root_name r.pattern))) (rule_trees defs)))
    (each (λ e. is_declared defs (Some e.term)) (λ e. IsDeclaredTerm defs e.term) (λ e. itself (is_declared defs (Some e.term))) (extractor_trees defs)))
    (each (λ e. is_declared defs (Some e.term)) (λ e. IsDeclaredTerm defs e.term) (λ e. itself (is_declared defs (Some e.term))) (external_trees defs)))
    (each (λ c. is_declared defs (Some c.term)) (λ c. IsDeclaredTerm defs c.term) (λ c. itself (is_declared defs (Some c.term))) (constructor_trees defs)))
    (each (λ c. not (has_rules defs c.term.text)) (IsWithoutRules defs) (λ c. itself (not (has_rules defs c.term.text))) (constructor_trees defs)))
    (names_differ (external_constructors defs)))
    (names_differ (internal_extractors defs ++ external_extractors defs)))
    (each (λ e. not (is_declared_multi defs e.term.text)) (IsOfPlainTerm defs) (λ e. itself (not (is_declared_multi defs e.term.text))) (extractor_trees defs)))
    (each (names_known_terms k defs) (NamesKnownTerms k defs) (λ e. each (is_known_term k defs) (IsKnownTerm k defs) (λ n. itself (is_known_term k defs n)) (terms_in e.template)) (extractor_trees defs)))
    (each (λ e. length (arguments_in e.template) == 0) HoldsNoMacroArg (λ e. holds_none (arguments_in e.template)) (extractor_trees defs)))
    (each (uses_declared_arguments defs) (UsesDeclaredArguments defs) (λ e. below (argument_count defs e.term.text) (arguments_in (extractor_template e))) (extractor_trees defs)))
    (cycles_are_found_lem defs))
    (each (is_known_converter k defs) (IsKnownConverter k defs) (converts k defs) (converter_trees defs)))
    (pairs_differ (converted_pairs defs)))

-- so a list that the judge refuses has no term table by these types
pub no_terms : (k : KnownTypes) (defs : List Definition) → has_valid_terms k defs ≡ false → IsValidTerms k defs → ⊥
no_terms k defs h = not_from_Decides (has_valid_terms k defs) (terms_are_judged_lem k defs) h

pub defined_are_judged_lem : DefinedAreJudged
defined_are_judged_lem defs = each (λ d. is_defined defs d.term.text) (IsDefined defs) (λ d. itself (is_defined defs d.term.text)) (decl_trees defs)
