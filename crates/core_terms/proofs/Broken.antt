-- A list of definitions that breaks a condition has no term table.
use Rattle.std.proofs.Common.{◌≡◌, ℕ, List, [], ◌∷◌, ◌++◌, map, slice_get, All, Contains, refl, sym, ap, ◌∙◌, arith}
use Rattle.std.specs.List.{filter_map, flat_map}
use Rattle.std.proofs.lemmas.List.{append_assoc, map-append}
use Rattle.std.proofs.lemmas.List.Concat.{flat_map-append}
use Rattle.std.proofs.lemmas.List.Elements.{filter_map-append}
use Rattle.std.proofs.lemmas.Option.{slice_get_within}
use Rattle.std.proofs.lemmas.Grind.{common_steps}
use Rattle.model.specs.lists.Syntax.{Position, DeclTree, ExtractorTree, ConverterTree, RuleTree, Definition, declaration, extractor_definition, converter_definition, rule_definition, extern_definition, extern_constructor, extern_extractor}
use Rattle.model.specs.lists.Names.{IsDistinct}
use Rattle.model.specs.lists.Tables.{TypeEntry}
use Rattle.model.specs.lists.KnownTypes.{KnownTypes}
use Rattle.model.specs.lists.TermTable.{ConstructorTree, ExternalTree, converted_pairs, converter_of, converter_trees, constructor_trees, decl_names, decl_of, decl_trees, external_constructor_of, external_extractor_of, external_constructors, external_extractors, external_trees, extractor_of, extractor_trees, internal_extractors, made_by, rule_of, rule_trees, term_names, HasDeclaredRoot, HasKnownArguments, HasKnownResult, HoldsNoMacroArg, IsDeclaredTerm, IsKnownConverter, IsNotBothMultiAndPartial, IsOfPlainTerm, IsValidTerms, IsWithoutRules, NamesKnownTerms, UsesDeclaredArguments}
use Rattle.model.proofs.Members.{get_from_member}
use Rattle.model.proofs.Positions.{twice}
use Rattle.core_terms.specs.TermBreaches.{TermGroup, BreaksDeclaration, name_taken, both_marks, unknown_argument, unknown_result, BreaksMade, BreaksExtractor, extractor_of_none, second_extractor, extractor_of_multi, unknown_term, holds_macro_arg, argument_past, BreaksConverter, unknown_converter, second_converter, BreaksConstructor, constructor_of_none, beside_rules, second_constructor, BreaksExternal, external_of_none, second_taker, BreaksGroup, BreaksTerms, by_declaration, by_made, by_rule, by_extractor, by_recursion, by_converter, by_constructor, by_external}
use Rattle.core_terms.proofs.Declaring.{at_middle}
use Rattle.core_terms.proofs.Making.{distinct_left}

-- what stands before stands twice
stands_twice : {X : Type 0} (xs ys zs : List X) (x : X) → zs ≡ xs ++ x ∷ ys → Contains xs x → IsDistinct zs → ⊥
stands_twice xs ys zs x whole c once = let g = get_from_member xs x c in twice xs ys zs x g.0 once (sym whole) (slice_get_within xs g.0 x g.1) g.1

-- what a list says, round one definition
module _ (defs before after : List Definition) (d : Definition) (whole : defs ≡ before ++ d ∷ after) where
  parts : {X : Type 0} (f : Definition → List X) (x : X) → f d ≡ x ∷ [] → flat_map f defs ≡ flat_map f before ++ x ∷ flat_map f after
  parts f x one = ap (flat_map f) whole ∙ flat_map-append f before (d ∷ after) ∙ ap (λ l. flat_map f before ++ (l ++ flat_map f after)) one

  named_parts : {X Y : Type 0} (f : Definition → List X) (g : X → Y) (x : X) → f d ≡ x ∷ [] → map g (flat_map f defs) ≡ map g (flat_map f before) ++ g x ∷ map g (flat_map f after)
  named_parts f g x one = ap (map g) (parts f x one) ∙ map-append g (flat_map f before) (x ∷ flat_map f after)

abbrev numbers_by : List TypeEntry → List ℕ
numbers_by ts = flat_map made_by ts

module _ (k : KnownTypes) (defs : List Definition) (v : IsValidTerms k defs) where
  declaration_breaks : (before after : List Definition) (d : DeclTree) → defs ≡ before ++ declaration d ∷ after → BreaksDeclaration k before d → ⊥
  declaration_breaks before after d whole (name_taken c) =
      stands_twice (decl_names before) (decl_names after) (decl_names defs) d.term.text (named_parts defs before after (declaration d) whole decl_of (λ d. d.term.text) d refl) c
      (distinct_left (decl_names defs) (filter_map (slice_get k.names) (flat_map made_by k.types)) v.distinct)
  declaration_breaks before after d whole (both_marks b) = b (at_middle IsNotBothMultiAndPartial (decl_trees before) d (decl_trees after) (decl_trees defs) (parts defs before after (declaration d) whole decl_of d refl) v.marks)
  declaration_breaks before after d whole (unknown_argument b) = b (at_middle (HasKnownArguments k) (decl_trees before) d (decl_trees after) (decl_trees defs) (parts defs before after (declaration d) whole decl_of d refl) v.types_of_arguments)
  declaration_breaks before after d whole (unknown_result b) = b (at_middle (HasKnownResult k) (decl_trees before) d (decl_trees after) (decl_trees defs) (parts defs before after (declaration d) whole decl_of d refl) v.types_of_results)

  made_breaks : (before after : List TypeEntry) (t : TypeEntry) → k.types ≡ before ++ t ∷ after → BreaksMade k defs before t → ⊥
  made_breaks before after t whole b =
      stands_twice (decl_names defs ++ filter_map (slice_get k.names) (numbers_by before ++ b.earlier)) (filter_map (slice_get k.names) (b.later ++ numbers_by after)) (term_names k defs) b.name
      (ap (λ l. decl_names defs ++ l) names ∙ sym (append_assoc (decl_names defs) (filter_map (slice_get k.names) (numbers_by before ++ b.earlier)) (b.name ∷ filter_map (slice_get k.names) (b.later ++ numbers_by after))))
      b.taken v.distinct
    where
      names : filter_map (slice_get k.names) (flat_map made_by k.types) ≡ filter_map (slice_get k.names) (numbers_by before ++ b.earlier) ++ b.name ∷ filter_map (slice_get k.names) (b.later ++ numbers_by after)
      names = grind (arith, common_steps, filter_map-append (slice_get k.names) (numbers_by before ++ b.earlier) (b.number ∷ (b.later ++ numbers_by after)))

  rule_breaks : (before after : List Definition) (r : RuleTree) → defs ≡ before ++ rule_definition r ∷ after → (HasDeclaredRoot defs r → ⊥) → ⊥
  rule_breaks before after r whole b = b (at_middle (HasDeclaredRoot defs) (rule_trees before) r (rule_trees after) (rule_trees defs) (parts defs before after (rule_definition r) whole rule_of r refl) v.roots)

  extractor_breaks : (before after : List Definition) (x : ExtractorTree) → defs ≡ before ++ extractor_definition x ∷ after → BreaksExtractor k defs before x → ⊥
  extractor_breaks before after x whole b = broken b
    where
      each : (P : ExtractorTree → Type 0) → All P (extractor_trees defs) → P x
      each P all = at_middle P (extractor_trees before) x (extractor_trees after) (extractor_trees defs) (parts defs before after (extractor_definition x) whole extractor_of x refl) all

      broken : BreaksExtractor k defs before x → ⊥
      broken (extractor_of_none b) = b (each (λ e. IsDeclaredTerm defs e.term) v.terms_of_extractors)
      broken (second_extractor c) =
          stands_twice (internal_extractors before) (internal_extractors after) (internal_extractors defs) x.term.text (named_parts defs before after (extractor_definition x) whole extractor_of (λ e. e.term.text) x refl) c
          (distinct_left (internal_extractors defs) (external_extractors defs) v.one_extractor)
      broken (extractor_of_multi b) = b (each (IsOfPlainTerm defs) v.plain_terms)
      broken (unknown_term b) = b (each (NamesKnownTerms k defs) v.known_terms)
      broken (holds_macro_arg b) = b (each HoldsNoMacroArg v.no_macro_args)
      broken (argument_past b) = b (each (UsesDeclaredArguments defs) v.declared_arguments)

  converter_breaks : (before after : List Definition) (c : ConverterTree) → defs ≡ before ++ converter_definition c ∷ after → BreaksConverter k defs before c → ⊥
  converter_breaks before after c whole (unknown_converter b) = b (at_middle (IsKnownConverter k defs) (converter_trees before) c (converter_trees after) (converter_trees defs) (parts defs before after (converter_definition c) whole converter_of c refl) v.known_converters)
  converter_breaks before after c whole (second_converter b) =
      stands_twice (converted_pairs before) (converted_pairs after) (converted_pairs defs) (c.inner_ty.text, c.outer_ty.text) (named_parts defs before after (converter_definition c) whole converter_of (λ c. (c.inner_ty.text, c.outer_ty.text)) c refl) b v.one_converter

  constructor_breaks : (before after : List Definition) (d : Definition) (c : ConstructorTree) → defs ≡ before ++ d ∷ after → external_constructor_of d ≡ c ∷ [] → BreaksConstructor defs before c → ⊥
  constructor_breaks before after d c whole one (constructor_of_none b) = b (at_middle (λ c. IsDeclaredTerm defs c.term) (constructor_trees before) c (constructor_trees after) (constructor_trees defs) (parts defs before after d whole external_constructor_of c one) v.terms_of_constructors)
  constructor_breaks before after d c whole one (beside_rules b) = b (at_middle (IsWithoutRules defs) (constructor_trees before) c (constructor_trees after) (constructor_trees defs) (parts defs before after d whole external_constructor_of c one) v.rules_or_function)
  constructor_breaks before after d c whole one (second_constructor b) =
      stands_twice (external_constructors before) (external_constructors after) (external_constructors defs) c.term.text (named_parts defs before after d whole external_constructor_of (λ c. c.term.text) c one) b v.one_constructor

  external_breaks : (before after : List Definition) (d : Definition) (t : ExternalTree) → defs ≡ before ++ d ∷ after → external_extractor_of d ≡ t ∷ [] → BreaksExternal defs before t → ⊥
  external_breaks before after d t whole one (external_of_none b) = b (at_middle (λ t. IsDeclaredTerm defs t.term) (external_trees before) t (external_trees after) (external_trees defs) (parts defs before after d whole external_extractor_of t one) v.terms_of_externals)
  external_breaks before after d t whole one (second_taker b) =
      stands_twice (internal_extractors defs ++ external_extractors before) (external_extractors after) (internal_extractors defs ++ external_extractors defs) t.term.text
      (ap (λ l. internal_extractors defs ++ l) (named_parts defs before after d whole external_extractor_of (λ t. t.term.text) t one) ∙ sym (append_assoc (internal_extractors defs) (external_extractors before) (t.term.text ∷ external_extractors after)))
      b v.one_extractor

-- whatever condition of a group is broken, the list isn't valid
group_invalid : (k : KnownTypes) (defs : List Definition) (ps : List Position) (group : TermGroup) → BreaksGroup k defs group ps → IsValidTerms k defs → ⊥
group_invalid k defs ps _ (by_declaration before after d whole b) v = declaration_breaks k defs v before after d whole b
group_invalid k defs ps _ (by_made before after t whole b) v = made_breaks k defs v before after t whole b
group_invalid k defs ps _ (by_rule before after r whole b) v = rule_breaks k defs v before after r whole b
group_invalid k defs ps _ (by_extractor before after x whole b) v = extractor_breaks k defs v before after x whole b
group_invalid k defs ps _ (by_recursion x there back) v = v.acyclic x.term.text back
group_invalid k defs ps _ (by_converter before after c whole b) v = converter_breaks k defs v before after c whole b
group_invalid k defs ps _ (by_constructor before after term function at whole b) v = constructor_breaks k defs v before after (extern_definition (extern_constructor term function at)) (record { term = term; function = function }) whole refl b
group_invalid k defs ps _ (by_external before after t whole b) v = external_breaks k defs v before after (extern_definition (extern_extractor t.term t.function t.at t.infallible)) t whole refl b

pub breaks_invalid : (k : KnownTypes) (defs : List Definition) (ps : List Position) → BreaksTerms k defs ps → IsValidTerms k defs → ⊥
breaks_invalid k defs ps b v = group_invalid k defs ps b.group b.breaks v
