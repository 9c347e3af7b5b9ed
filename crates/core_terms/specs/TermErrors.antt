-- Which errors are told of the terms of a list of definitions: those of the first group in which something is wrong.
use Rattle.std.specs.Prelude.{◌≡◌, ℕ, List, [], All, Contains}
use Rattle.model.specs.lists.Syntax.{ConverterTree, Definition, converter_definition}
use Rattle.model.specs.lists.KnownTypes.{KnownTypes}
use Rattle.model.specs.lists.Names.{IsDistinct}
use Rattle.model.specs.lists.TermTable.{decl_trees, rule_trees, extractor_trees, converter_trees, converted_pairs, term_names, HasDeclaredRoot, IsAcyclic, IsKnownConverter}
use Rattle.model.specs.claims.Environments.{TypesRead}
use Rattle.core_syntax.specs.declared.syntax.Error.{Error}
use Rattle.core_syntax.specs.Positions.{converter_positions}
use Rattle.core_types.specs.ToldErrors.{TellsUnless, Told}
use Rattle.core_terms.specs.Signing.{AreRightDeclarations}
use Rattle.core_terms.specs.Templating.{AreRightExtractors}
use Rattle.core_terms.specs.TermBreaches.{of_signatures, of_definitions, of_converters, of_externs, FirstBreaksGroup}

-- no two terms have one name, and the declarations are right
pub record AreRightSignatures (e : TypesRead) (defs : List Definition) : Type 0 where
  pub distinct : IsDistinct (term_names e.known defs)
  pub declarations : AreRightDeclarations e.known (decl_trees defs)

-- rules are of declared terms, internal extractors are right, and none comes back to itself
pub record AreRightDefinitions (e : TypesRead) (defs : List Definition) : Type 0 where
  pub roots : All (HasDeclaredRoot defs) (rule_trees defs)
  pub extractors : AreRightExtractors e defs (extractor_trees defs)
  pub acyclic : IsAcyclic defs

-- converters are known, and no two are of the same types
pub record AreRightConverters (e : TypesRead) (defs : List Definition) : Type 0 where
  pub known : All (IsKnownConverter e.known defs) (converter_trees defs)
  pub distinct : IsDistinct (converted_pairs defs)

-- one of these definitions is a converter of two types, and it is known
pub record IsConvertedBefore (k : KnownTypes) (defs before : List Definition) (types : List ℕ × List ℕ) : Type 0 where
  pub converter : ConverterTree
  pub there : Contains (converter_trees before) converter
  pub known : IsKnownConverter k defs converter
  pub of_types : (converter.inner_ty.text, converter.outer_ty.text) ≡ types

-- a converter is known, and is the first known one of its types
pub record IsRightConverter (k : KnownTypes) (defs before : List Definition) (c : ConverterTree) : Type 0 where
  pub known : IsKnownConverter k defs c
  pub first : IsConvertedBefore k defs before (c.inner_ty.text, c.outer_ty.text) → ⊥

-- of a converter that isn't right one error, at its positions
abbrev pub TellsOfConverter : KnownTypes → List Definition → List Definition → Definition → List Error → Type 0
TellsOfConverter k defs before (converter_definition c) es = TellsUnless (IsRightConverter k defs before c) (converter_positions c) es
TellsOfConverter k defs before _ es = es ≡ []

-- what is wrong is in one of the groups, all groups before it are right, and the first error stands where a condition of that
-- group is broken; the errors of converters are those of each
pub data AreErrorsOfTerms (e : TypesRead) (defs : List Definition) (errors : List Error) : Type 0 where
  in_signatures : FirstBreaksGroup e.known of_signatures defs errors → AreErrorsOfTerms e defs errors
  in_definitions : AreRightSignatures e defs → FirstBreaksGroup e.known of_definitions defs errors → AreErrorsOfTerms e defs errors
  in_converters : AreRightSignatures e defs → AreRightDefinitions e defs → FirstBreaksGroup e.known of_converters defs errors
      → Told (TellsOfConverter e.known defs) defs errors → AreErrorsOfTerms e defs errors
  in_externs : AreRightSignatures e defs → AreRightDefinitions e defs → AreRightConverters e defs
      → FirstBreaksGroup e.known of_externs defs errors → AreErrorsOfTerms e defs errors
