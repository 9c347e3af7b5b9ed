-- Total meanings: each that is well typed for what rules use serves them, and so trees run by total functions as rules choose.
use Rattle.std.specs.Prelude.{◌≡◌, ◌++◌, ℕ, ℤ, Bool, true, false, List, Some, is_some, slice_get, Contains, IsTrue}
use Rattle.std.specs.List.{flat_map}
use Rattle.model.specs.lists.Syntax.{Definition}
use Rattle.model.specs.lists.Elaborated.{TypedRules}
use Rattle.model.specs.lists.Tables.{TermEntry, TermKindEntry, declared_term}
use Rattle.model.specs.rules.Values.{Value, truth, atom, Values, is_truth_type, is_atom_type, well_typed, all_well_typed, args_well_typed}
use Rattle.model.specs.rules.Meaning.{bool_literal, int_literal, Meaning, TotalMeaning, total}
use Rattle.model.specs.rules.Choice.{choice, MatchesOnce}
use Rattle.model.specs.rules.Program.{Program, kind, is_multi, is_pure, arg_types, rules_of}
use Rattle.model.specs.rules.Typed.{TypedRule}
use Rattle.model.specs.sites.Sites.{Site}
use Rattle.model.specs.sites.Serves.{fits_extractor, fits_constructor, constant_type, is_own_type, Serves, TellsConstantsApart}
use Rattle.model.specs.trees.Run.{run, world_of}
use Rattle.model.specs.trees.Trees.{Tree}
use Rattle.model.specs.claims.Environments.{TypesRead, IsElaborated, program_of}
use Rattle.model.specs.claims.Headline.{RunsAsChosen}
use Rattle.laws_typing.specs.WellTypedPrograms.{IsWellTypedProgram}
use Rattle.laws_sites.specs.RuleUses.{Use, a_term, a_constant, matched_in, called_in}

-- what the patterns of rules use, and what their expressions do
abbrev pub matched_by : List TypedRule → List Use
matched_by rs = flat_map matched_in rs

abbrev pub called_by : List TypedRule → List Use
called_by rs = flat_map called_in rs

-- a declared term that has an extractor, or a constructor
abbrev pub can_be_matched : TermKindEntry → Bool
can_be_matched (declared_term flags constructor_kind extractor_kind) = is_some extractor_kind
can_be_matched _ = false

abbrev pub can_be_called : TermKindEntry → Bool
can_be_called (declared_term flags constructor_kind extractor_kind) = is_some constructor_kind
can_be_called _ = false

-- literals of booleans, of built-in integer types and of primitive types have values of these types, and those of built-in
-- types the ones that they write; named constants that are used have values of theirs; on a value of its term's type an extractor
-- answers values of the term's arguments, on values of its term's arguments a constructor answers a value of the term's type: one,
-- a list of such where the term is multi, and it may answer nothing where the term is partial, or the extractor isn't declared
-- to answer always. Nothing is said of terms and constants that aren't used, nor of other arguments
pub record IsWellTyped (p : Program) (matched called : List Use) (f : TotalMeaning) : Type 0 where
  pub bools : (b : Bool) (ty : ℕ) → IsTrue (is_truth_type (slice_get p.types ty)) → IsTrue (well_typed p.types ty (f.literals (bool_literal b ty)))
  pub ints : (z : ℤ) (ty : ℕ) → IsTrue (is_atom_type (slice_get p.types ty)) → IsTrue (well_typed p.types ty (f.literals (int_literal z ty)))
  pub written_bools : (b : Bool) (ty : ℕ) → IsTrue (is_truth_type (slice_get p.types ty)) → f.literals (bool_literal b ty) ≡ truth b
  pub written_ints : (z : ℤ) (ty : ℕ) → is_own_type (slice_get p.types ty) ≡ true → f.literals (int_literal z ty) ≡ atom ty z
  pub constants : (name ty : ℕ) → Contains (matched ++ called) (a_constant name) → constant_type p name ≡ Some ty → IsTrue (well_typed p.types ty (f.constants name))
  pub extractors : (t : ℕ) (e : TermEntry) (v : Value) → Contains matched (a_term t) → slice_get p.terms t ≡ Some e → IsTrue (can_be_matched e.kind) → IsTrue (well_typed p.types e.ret_ty v)
      → IsTrue (fits_extractor p t (kind p t) (f.extractors t v))
  pub pures : (t : ℕ) (e : TermEntry) (vs : Values) → Contains called (a_term t) → slice_get p.terms t ≡ Some e → IsTrue (can_be_called e.kind) → is_pure p t ≡ true → IsTrue (all_well_typed p.types (Some e.arg_tys) vs)
      → IsTrue (fits_constructor p t (kind p t) (f.pures t vs))
  pub impures : (t before : ℕ) (e : TermEntry) (vs : Values) → Contains called (a_term t) → slice_get p.terms t ≡ Some e → IsTrue (can_be_called e.kind) → is_pure p t ≡ false → IsTrue (all_well_typed p.types (Some e.arg_tys) vs)
      → IsTrue (fits_constructor p t (kind p t) (f.impures t before))

-- the functions are well typed for what the rules of a term use
abbrev pub IsTotalFor : Program → ℕ → TotalMeaning → Type 0
IsTotalFor p t f = IsWellTyped p (matched_by (rules_of p t)) (called_by (rules_of p t)) f

-- then the meaning that they are serves these rules, for each term of a well-typed program, on all well-typed arguments
abbrev pub TotalMeaningsServe : Type 0
TotalMeaningsServe =
    (p : Program) (t : ℕ) (f : TotalMeaning) (args : List Value)
    → IsWellTypedProgram p → IsTotalFor p t f
    → IsTrue (args_well_typed p.types (arg_types p t) args)
    → Serves p (total f) args (rules_of p t)

-- under a meaning a tree's run is the choice by priority, in which no second rule of one priority matches
pub record ChoosesUnder (p : Program) (t : ℕ) (sites : List Site) (tree : Tree) (m : Meaning) (args : List Value) : Type 0 where
  pub as_chosen : run tree (world_of p t sites m args) ≡ choice p m (rules_of p t) args
  pub once : MatchesOnce p m (rules_of p t) args

-- so does, in a term that isn't multi, a tree that runs as chosen, by well-typed functions that tell constants apart
abbrev pub RunsByFunctionsAsChosen : Type 0
RunsByFunctionsAsChosen =
    (e : TypesRead) (defs : List Definition) (expand : Bool) (rules : TypedRules) (t : ℕ) (sites : List Site) (tree : Tree) (f : TotalMeaning) (args : List Value)
    → IsElaborated e defs expand rules → is_multi (program_of e defs rules.rules) t ≡ false → RunsAsChosen (program_of e defs rules.rules) t sites tree
    → IsTotalFor (program_of e defs rules.rules) t f → TellsConstantsApart (program_of e defs rules.rules) (total f) (rules_of (program_of e defs rules.rules) t)
    → IsTrue (args_well_typed (program_of e defs rules.rules).types (arg_types (program_of e defs rules.rules) t) args)
    → ChoosesUnder (program_of e defs rules.rules) t sites tree (total f) args
