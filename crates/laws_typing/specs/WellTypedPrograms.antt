-- What typing gives to those who reason of programs: of a program whose rules elaborate, what the laws use.
use Rattle.std.specs.Prelude.{◌≡◌, ℕ, pos, true, false, Bool, List, [], ◌∷◌, Some, slice_get, Contains, IsTrue}
use Rattle.model.specs.lists.Syntax.{Definition}
use Rattle.model.specs.lists.Tables.{Flags, TypeEntry, builtin_type, TermEntry, variant_term, struct_term}
use Rattle.model.specs.lists.KnownTypes.{StandAtIds}
use Rattle.model.specs.lists.Setting.{allow, on_lhs}
use Rattle.model.specs.lists.Elaborated.{TypedRules}
use Rattle.model.specs.lists.Formed.{is_formed_rule}
use Rattle.model.specs.rules.Values.{variant_types, struct_types}
use Rattle.model.specs.rules.CalledTerms.{CallsAlone}
use Rattle.model.specs.rules.CallsNoMulti.{PatternCallsNoMulti, ArgsCallNoMulti}
use Rattle.model.specs.rules.Program.{Program, kind, flags_of, is_multi}
use Rattle.model.specs.rules.Typed.{TypedIfLet, TypedRule}
use Rattle.model.specs.sites.DemandedGates.{HasNoPartialMulti}
use Rattle.model.specs.claims.Environments.{TypesRead, IsElaborated, program_of}

-- the first type is that of booleans, and each type stands at its id
pub record HasTypes (types : List TypeEntry) : Type 0 where
  pub ids : StandAtIds types
  pub first : slice_get types 0 ≡ Some (builtin_type 0)

-- a term of a variant or of a struct takes its fields
pub record HasTypedParts (p : Program) : Type 0 where
  pub variants : (t : ℕ) (e : TermEntry) → slice_get p.terms t ≡ Some e → (i : ℕ) → e.kind ≡ variant_term i → variant_types (slice_get p.types e.ret_ty) i ≡ Some e.arg_tys
  pub structs : (t : ℕ) (e : TermEntry) → slice_get p.terms t ≡ Some e → e.kind ≡ struct_term → struct_types (slice_get p.types e.ret_ty) ≡ Some e.arg_tys

-- these flags, in force, allow a call of a term
abbrev pub MayCall : Program → Flags → ℕ → Type 0
MayCall p flags t = IsTrue (allow flags (flags_of (kind p t)))

-- under the flags of a rule's term, if-lets call what these allow on left sides, and match multi terms only where these
-- are multi
abbrev pub IfLetsMayCall : Program → Flags → List TypedIfLet → Type 0
IfLetsMayCall p flags [] = Unit {0}
IfLetsMayCall p flags (i ∷ is) = (flags.multi ≡ false → PatternCallsNoMulti p i.lhs) × CallsAlone (MayCall p (on_lhs flags)) i.rhs × IfLetsMayCall p flags is

-- a rule that is well formed, and calls what the flags of its term allow
pub record IsWellTypedRule (p : Program) (r : TypedRule) : Type 0 where
  -- its terms have as many parts as arguments, all at their types, and each variable is bound once, before it is used
  pub formed : is_formed_rule p r ≡ true
  -- the patterns of its arguments match multi terms only where its term is multi
  pub patterns : is_multi p r.root_term ≡ false → ArgsCallNoMulti p r.args
  -- so do those of its if-lets, whose expressions call what the flags of its term allow on left sides
  pub conditions : IfLetsMayCall p (flags_of (kind p r.root_term)) r.iflets
  -- its right side calls what these flags allow
  pub right : CallsAlone (MayCall p (flags_of (kind p r.root_term))) r.rhs
  -- where its term is multi, it has no priority of its own
  pub no_priority : is_multi p r.root_term ≡ true → r.prio ≡ pos 0

-- a well-typed program: what the laws use of rules that elaborate
pub record IsWellTypedProgram (p : Program) : Type 0 where
  pub types : HasTypes p.types
  pub parts : HasTypedParts p
  pub not_both : HasNoPartialMulti p
  pub rules : (r : TypedRule) → Contains p.rules r → IsWellTypedRule p r

-- rules that elaborate make such a program
abbrev pub ElaboratedProgramsAreWellTyped : Type 0
ElaboratedProgramsAreWellTyped =
    (e : TypesRead) (defs : List Definition) (expand : Bool) (rules : TypedRules) → IsElaborated e defs expand rules
    → IsWellTypedProgram (program_of e defs rules.rules)
