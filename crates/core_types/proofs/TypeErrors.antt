-- The errors that are told of types: put together, and each stands at the definition that it is told of.
use Rattle.std.proofs.Common.{◌≡◌, List, [], ◌∷◌, ◌++◌, All, sym, subst, arith}
use Rattle.std.proofs.lemmas.List.Elements.{All-nil, All-append, All-weaker}
use Rattle.std.proofs.lemmas.Grind.{common_steps}
use Rattle.model.specs.lists.Syntax.{Position, Definition}
use Rattle.core_syntax.specs.declared.syntax.Error.{Error}
use Rattle.core_syntax.specs.ErrorViews.{error_view}
use Rattle.core_syntax.specs.NotedErrors.{AreIllTyped}
use Rattle.core_syntax.specs.Positions.{ErrorStandsAt, definition_positions, positions_of}
use Rattle.core_syntax.proofs.Positioned.{among_first}
use Rattle.model.specs.claims.Refusals.{IsIllTyped}
use Rattle.core_types.specs.ToldErrors.{IsToldAt, TellsUnless, NotesEach}
use Rattle.core_types.specs.TypeErrors.{TellsOfName, TellsOfType, TellsOfConstant, AreErrorsOfTypes}
use Rattle.core_types.proofs.ToldErrors.{told_among, each_told}

none_at : (ps : List Position) (es : List Error) → es ≡ [] → All (IsToldAt ps) es
none_at ps es none = subst (All (IsToldAt ps)) (sym none) (All-nil (IsToldAt ps))

-- what is told at the place where a definition begins
begin_at : (p : Position) (ps : List Position) (es : List Error) → All (IsToldAt (p ∷ [])) es → All (IsToldAt (p ∷ ps)) es
begin_at p ps es h = All-weaker (IsToldAt (p ∷ [])) (IsToldAt (p ∷ ps)) (λ e t. told_among (p ∷ []) (p ∷ ps) e (among_first p ps) t) es h

unless_at : (Right : Type 0) (ps : List Position) (es : List Error) → TellsUnless Right ps es → All (IsToldAt ps) es
unless_at Right ps es h = grind (arith, common_steps, none_at ps es)

pub name_at : (before : List Definition) (d : Definition) (es : List Error) → TellsOfName before d es → All (IsToldAt (definition_positions d)) es
name_at before d es h = grind (arith, begin_at)

pub type_at : (defs before : List Definition) (d : Definition) (es : List Error) → TellsOfType defs before d es → All (IsToldAt (definition_positions d)) es
type_at defs before d es h = grind (arith, unless_at)

pub constant_at : (defs before : List Definition) (d : Definition) (es : List Error) → TellsOfConstant defs before d es → All (IsToldAt (definition_positions d)) es
constant_at defs before d es h = grind (arith, none_at, unless_at)

module _ (defs : List Definition) where
  -- what the three stages note, one after another
  pub all_told : (a b c : List Error) → NotesEach TellsOfName defs [] a → NotesEach (TellsOfType defs) defs a b → NotesEach (TellsOfConstant defs) defs b c → AreErrorsOfTypes defs c
  all_told a b c n t k = grind (arith, common_steps)

  module _ (es : List Error) (a : AreErrorsOfTypes defs es) where
    pub told_there : All (IsToldAt (positions_of defs)) es
    told_there =
        let P = IsToldAt (positions_of defs) in
        subst (All P) (sym a.are)
        (All-append P (a.of_names ++ a.of_types) a.of_constants
        (All-append P a.of_names a.of_types (each_told TellsOfName name_at defs a.of_names a.names) (each_told (TellsOfType defs) (type_at defs) defs a.of_types a.types))
        (each_told (TellsOfConstant defs) (constant_at defs) defs a.of_constants a.constants))

    pub told_forms : AreIllTyped es
    told_forms = All-weaker (IsToldAt (positions_of defs)) (λ e. IsIllTyped (error_view e)) (λ e t. t.form) es told_there

    pub told_places : All (ErrorStandsAt (positions_of defs)) es
    told_places = All-weaker (IsToldAt (positions_of defs)) (ErrorStandsAt (positions_of defs)) (λ e t. t.stands) es told_there
