-- Where echoes are well typed and tell constants apart, and so the run of a tree by them is the choice of a source rule.
use Rattle.std.specs.Prelude.{◌≡◌, ◌++◌, ℕ, ℤ, Bool, true, false, List, [], ◌∷◌, Option, Some, slice_get, Contains, IsTrue}
use Rattle.std.specs.Bool.{◌==◌}
use Rattle.std.specs.List.{list_all}
use Rattle.cranelift_isle.specs.Syntax.{Definition}
use Rattle.cranelift_isle.specs.Tables.{TermEntry}
use Rattle.cranelift_isle.specs.Elaborated.{TypedRules}
use Rattle.cranelift_isle.specs.Values.{Value, has_atoms, args_well_typed}
use Rattle.cranelift_isle.specs.Meaning.{total}
use Rattle.cranelift_isle.specs.Program.{Program, arg_types, is_multi, is_pure, rules_of}
use Rattle.cranelift_isle.specs.Typed.{TypedRule}
use Rattle.cranelift_isle.specs.Sites.{Site, SiteTerm, int_term, is_prim, prim_term}
use Rattle.cranelift_isle.specs.Serves.{constant_type, is_type_with_parts, tested_constants, TellsConstantsApart}
use Rattle.cranelift_isle.specs.Demands.{demands_of}
use Rattle.cranelift_isle.specs.Trees.{Tree}
use Rattle.cranelift_isle.specs.ElaboratedLists.{TypesRead, IsElaborated, program_of}
use Rattle.cranelift_isle.specs.Headline.{RunsAsChosen}
use Rattle.laws_sites.specs.RuleUses.{Use, a_term, a_constant}
use Rattle.laws_trees.specs.TotalLaws.{IsWellTyped, ChoosesUnder, can_be_matched, can_be_called, matched_by, called_by}
use Rattle.report_traces.specs.Echoes.{constant_number, echoes}

-- a value of a type can be given: the first argument, or an atom where there is none
abbrev pub CanGiveFirst : Program → ℕ → List ℕ → Type 0
CanGiveFirst p ty [] = IsTrue (has_atoms (slice_get p.types ty))
CanGiveFirst p ty (first ∷ rest) = first ≡ ty

-- what is used can be echoed: named constants and the results of impure constructors are of types with atoms, the outputs of an
-- extractor have the type of what it takes apart, and a pure constructor's result that of its first argument
pub record CanBeEchoed (p : Program) (matched called : List Use) : Type 0 where
  pub constants : (name ty : ℕ) → Contains (matched ++ called) (a_constant name) → constant_type p name ≡ Some ty → IsTrue (has_atoms (slice_get p.types ty))
  pub extractors : (t : ℕ) (e : TermEntry) → Contains matched (a_term t) → slice_get p.terms t ≡ Some e → IsTrue (can_be_matched e.kind) → IsTrue (list_all (λ ty. ty == e.ret_ty) e.arg_tys)
  pub pures : (t : ℕ) (e : TermEntry) → Contains called (a_term t) → slice_get p.terms t ≡ Some e → IsTrue (can_be_called e.kind) → is_pure p t ≡ true → CanGiveFirst p e.ret_ty e.arg_tys
  pub impures : (t : ℕ) (e : TermEntry) → Contains called (a_term t) → slice_get p.terms t ≡ Some e → IsTrue (can_be_called e.kind) → is_pure p t ≡ false → IsTrue (has_atoms (slice_get p.types e.ret_ty))

-- the constants have the types of a program
abbrev pub AreConstantTypesOf : Program → (ℕ → Option ℕ) → Type 0
AreConstantTypesOf p constant_types = (name : ℕ) → constant_types name ≡ constant_type p name

-- echoes are then well typed
abbrev pub EchoesAreWellTyped : Type 0
EchoesAreWellTyped =
    (p : Program) (constant_types : ℕ → Option ℕ) (matched called : List Use) → AreConstantTypesOf p constant_types → CanBeEchoed p matched called
    → IsWellTyped p matched called (echoes constant_types p.terms)

-- no pattern writes a literal that is the number of a constant that a pattern names
abbrev pub WritesNoConstant : Program → List TypedRule → Type 0
WritesNoConstant p rs =
    (z : ℤ) (ty name : ℕ) → Contains (tested_constants p rs) (int_term z ty) → Contains (tested_constants p rs) (prim_term name) → z ≡ constant_number name → ⊥

-- no pattern names a constant of an enum with variants or of a struct
abbrev pub NamesNoneWithParts : Program → List TypedRule → Type 0
NamesNoneWithParts p rs =
    (r : TypedRule) (s : SiteTerm) (name ty : ℕ) → Contains rs r → Contains (demands_of p r).constraints (s, is_prim name)
    → constant_type p name ≡ Some ty → is_type_with_parts (slice_get p.types ty) ≡ false

-- echoes then tell apart the constants of a term's rules
abbrev pub EchoesKeepConstantsApart : Type 0
EchoesKeepConstantsApart =
    (p : Program) (t : ℕ) (constant_types : ℕ → Option ℕ) → AreConstantTypesOf p constant_types → WritesNoConstant p (rules_of p t) → NamesNoneWithParts p (rules_of p t)
    → TellsConstantsApart p (total (echoes constant_types p.terms)) (rules_of p t)

-- and so, in a term that isn't multi, a tree that runs as chosen comes by echoes to the outcome of the matching source rule of
-- greatest priority
abbrev pub EchoesChooseAsSource : Type 0
EchoesChooseAsSource =
    (e : TypesRead) (defs : List Definition) (expand : Bool) (rules : TypedRules) (t : ℕ) (sites : List Site) (tree : Tree) (constant_types : ℕ → Option ℕ) (args : List Value)
    → IsElaborated e defs expand rules → is_multi (program_of e defs rules.rules) t ≡ false → RunsAsChosen (program_of e defs rules.rules) t sites tree
    → AreConstantTypesOf (program_of e defs rules.rules) constant_types
    → CanBeEchoed (program_of e defs rules.rules) (matched_by (rules_of (program_of e defs rules.rules) t)) (called_by (rules_of (program_of e defs rules.rules) t))
    → WritesNoConstant (program_of e defs rules.rules) (rules_of (program_of e defs rules.rules) t)
    → NamesNoneWithParts (program_of e defs rules.rules) (rules_of (program_of e defs rules.rules) t)
    → IsTrue (args_well_typed (program_of e defs rules.rules).types (arg_types (program_of e defs rules.rules) t) args)
    → ChoosesUnder (program_of e defs rules.rules) t sites tree (total (echoes constant_types (program_of e defs rules.rules).terms)) args
