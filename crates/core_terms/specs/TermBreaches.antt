-- Which definition breaks a condition that lists with a term table meet, and the positions at which an error that says so
-- stands. Of two that have one name, it is the one that comes later: an external extractor comes after all internal ones.
use Rattle.std.specs.Prelude.{◌≡◌, ℕ, List, [], ◌∷◌, ◌++◌, Some, Contains, slice_get}
use Rattle.std.specs.List.{filter_map, flat_map}
use Rattle.model.specs.lists.Syntax.{Position, Name, DeclTree, ExtractorTree, ConverterTree, RuleTree, Definition, declaration, extractor_definition, converter_definition, rule_definition, extern_definition, extern_constructor, extern_extractor}
use Rattle.model.specs.lists.Tables.{TypeEntry}
use Rattle.model.specs.lists.KnownTypes.{KnownTypes}
use Rattle.model.specs.lists.TermTable.{ConstructorTree, ExternalTree, decl_names, converted_pairs, external_constructors, external_extractors, extractor_trees, internal_extractors, made_by, HasDeclaredRoot, HasKnownArguments, HasKnownResult, HoldsNoMacroArg, IsDeclaredTerm, IsKnownConverter, IsNotBothMultiAndPartial, IsOfPlainTerm, IsWithoutRules, NamesKnownTerms, Reaches, UsesDeclaredArguments}
use Rattle.core_syntax.specs.declared.syntax.Error.{Error}
use Rattle.core_syntax.specs.Patterns.{pattern_position}
use Rattle.core_syntax.specs.Positions.{ErrorStandsAt, definition_positions}
use Rattle.core_types.specs.TypePositions.{entry_positions}

-- a declaration's name is one of those before, it is both multi and partial, or a type that it names isn't known
pub data BreaksDeclaration (k : KnownTypes) (before : List Definition) (d : DeclTree) : Type 0 where
  name_taken : Contains (decl_names before) d.term.text → BreaksDeclaration k before d
  both_marks : (IsNotBothMultiAndPartial d → ⊥) → BreaksDeclaration k before d
  unknown_argument : (HasKnownArguments k d → ⊥) → BreaksDeclaration k before d
  unknown_result : (HasKnownResult k d → ⊥) → BreaksDeclaration k before d

-- the name of a variant or struct is a declared term's, or that of one that this type or one before makes earlier
pub record BreaksMade (k : KnownTypes) (defs : List Definition) (before : List TypeEntry) (t : TypeEntry) : Type 0 where
  pub earlier : List ℕ
  pub number : ℕ
  pub later : List ℕ
  pub makes : made_by t ≡ earlier ++ number ∷ later
  pub name : List ℕ
  pub name_is : slice_get k.names number ≡ Some name
  pub taken : Contains (decl_names defs ++ filter_map (slice_get k.names) (flat_map made_by before ++ earlier)) name

-- an internal extractor is of a term that isn't declared, that has one before, or that is multi; its pattern names a term that
-- isn't known or holds a macro argument; or its template uses an argument that the term doesn't have
pub data BreaksExtractor (k : KnownTypes) (defs before : List Definition) (x : ExtractorTree) : Type 0 where
  extractor_of_none : (IsDeclaredTerm defs x.term → ⊥) → BreaksExtractor k defs before x
  second_extractor : Contains (internal_extractors before) x.term.text → BreaksExtractor k defs before x
  extractor_of_multi : (IsOfPlainTerm defs x → ⊥) → BreaksExtractor k defs before x
  unknown_term : (NamesKnownTerms k defs x → ⊥) → BreaksExtractor k defs before x
  holds_macro_arg : (HoldsNoMacroArg x → ⊥) → BreaksExtractor k defs before x
  argument_past : (UsesDeclaredArguments defs x → ⊥) → BreaksExtractor k defs before x

-- a converter's types or its term aren't known, or one before converts the same types
pub data BreaksConverter (k : KnownTypes) (defs before : List Definition) (c : ConverterTree) : Type 0 where
  unknown_converter : (IsKnownConverter k defs c → ⊥) → BreaksConverter k defs before c
  second_converter : Contains (converted_pairs before) (c.inner_ty.text, c.outer_ty.text) → BreaksConverter k defs before c

-- an external constructor is of a term that isn't declared, that has rules, or that has one before
pub data BreaksConstructor (defs before : List Definition) (c : ConstructorTree) : Type 0 where
  constructor_of_none : (IsDeclaredTerm defs c.term → ⊥) → BreaksConstructor defs before c
  beside_rules : (IsWithoutRules defs c → ⊥) → BreaksConstructor defs before c
  second_constructor : Contains (external_constructors before) c.term.text → BreaksConstructor defs before c

-- an external extractor is of a term that isn't declared, or that has an internal one, or an external one before
pub data BreaksExternal (defs before : List Definition) (t : ExternalTree) : Type 0 where
  external_of_none : (IsDeclaredTerm defs t.term → ⊥) → BreaksExternal defs before t
  second_taker : Contains (internal_extractors defs ++ external_extractors before) t.term.text → BreaksExternal defs before t

-- the groups in which terms are read: declarations and the terms that types make; rules' terms and internal extractors;
-- converters; external functions
pub data TermGroup : Type 0 where
  of_signatures : TermGroup
  of_definitions : TermGroup
  of_converters : TermGroup
  of_externs : TermGroup

-- a definition, or a type that is known, breaks a condition of a group: an error on it stands at its positions. On an internal extractor
-- that comes back to itself one stands at its pattern
pub data BreaksGroup (k : KnownTypes) (defs : List Definition) : TermGroup → List Position → Type 0 where
  by_declaration : (before after : List Definition) (d : DeclTree) → defs ≡ before ++ declaration d ∷ after → BreaksDeclaration k before d
      → BreaksGroup k defs of_signatures (definition_positions (declaration d))
  by_made : (before after : List TypeEntry) (t : TypeEntry) → k.types ≡ before ++ t ∷ after → BreaksMade k defs before t
      → BreaksGroup k defs of_signatures (entry_positions t)
  by_rule : (before after : List Definition) (r : RuleTree) → defs ≡ before ++ rule_definition r ∷ after → (HasDeclaredRoot defs r → ⊥)
      → BreaksGroup k defs of_definitions (definition_positions (rule_definition r))
  by_extractor : (before after : List Definition) (x : ExtractorTree) → defs ≡ before ++ extractor_definition x ∷ after → BreaksExtractor k defs before x
      → BreaksGroup k defs of_definitions (definition_positions (extractor_definition x))
  by_recursion : (x : ExtractorTree) → Contains (extractor_trees defs) x → Reaches defs x.term.text x.term.text
      → BreaksGroup k defs of_definitions (pattern_position x.template ∷ [])
  by_converter : (before after : List Definition) (c : ConverterTree) → defs ≡ before ++ converter_definition c ∷ after → BreaksConverter k defs before c
      → BreaksGroup k defs of_converters (definition_positions (converter_definition c))
  by_constructor : (before after : List Definition) (term function : Name) (at : Position)
      → defs ≡ before ++ extern_definition (extern_constructor term function at) ∷ after
      → BreaksConstructor defs before (record { term = term; function = function })
      → BreaksGroup k defs of_externs (definition_positions (extern_definition (extern_constructor term function at)))
  by_external : (before after : List Definition) (t : ExternalTree)
      → defs ≡ before ++ extern_definition (extern_extractor t.term t.function t.at t.infallible) ∷ after
      → BreaksExternal defs before t
      → BreaksGroup k defs of_externs (definition_positions (extern_definition (extern_extractor t.term t.function t.at t.infallible)))

-- a condition of some group is broken
pub record BreaksTerms (k : KnownTypes) (defs : List Definition) (positions : List Position) : Type 0 where
  pub group : TermGroup
  pub breaks : BreaksGroup k defs group positions

-- the first of these errors stands where a condition of a group is broken
pub record FirstBreaksGroup (k : KnownTypes) (group : TermGroup) (defs : List Definition) (errors : List Error) : Type 0 where
  pub first : Error
  pub rest : List Error
  pub is : errors ≡ first ∷ rest
  pub positions : List Position
  pub breaks : BreaksGroup k defs group positions
  pub stands : ErrorStandsAt positions first

-- the first of these errors stands where a condition is broken
pub record FirstBreaksTerms (k : KnownTypes) (defs : List Definition) (errors : List Error) : Type 0 where
  pub first : Error
  pub rest : List Error
  pub is : errors ≡ first ∷ rest
  pub positions : List Position
  pub breaks : BreaksTerms k defs positions
  pub stands : ErrorStandsAt positions first

-- where there was no error before, the first one now stands at some of these positions
pub record FirstStandsAt (positions : List Position) (old new : List Error) : Type 0 where
  pub begins : (first : Error) (rest : List Error) → old ≡ [] → new ≡ first ∷ rest → ErrorStandsAt positions first
