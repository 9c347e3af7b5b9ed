-- What follows of well-typed programs: what terms of variants and structs give and take, and what rules call, flag by flag.
use Rattle.std.proofs.Common.{◌≡◌, ℕ, Bool, true, false, not, ◌||◌, List, [], ◌∷◌, Some, slice_get, arith}
use Rattle.std.proofs.lemmas.Grind.{common_steps}
use Rattle.std.proofs.lemmas.Bool.{and_parts}
use Rattle.model.specs.lists.Tables.{Flags, TermEntry, TermKindEntry, variant_term, struct_term, declared_term}
use Rattle.model.specs.rules.CalledTerms.{CallsAlone}
use Rattle.model.specs.rules.CallsNoMulti.{CallsNoMulti, IfLetsCallNoMulti}
use Rattle.model.specs.rules.Program.{Program, Kind, a_variant, a_struct, a_call, kind_of, kind, always_answers, flags_of, is_multi, is_partial}
use Rattle.model.specs.rules.Typed.{TypedIfLet, TypedRule}
use Rattle.model.specs.rules.Values.{variant_types, struct_types}
use Rattle.model.specs.sites.DemandedGates.{ArePureIfLets, HasNoPartialMulti}
use Rattle.model.proofs.CalledTerms.{calls_such}
use Rattle.laws_typing.specs.WellTypedPrograms.{HasTypedParts, MayCall, IfLetsMayCall, IsWellTypedRule}

-- 1. terms
-- what a term of an entry's kind and result type is to a pattern or an expression
abbrev pub kind_by : ℕ → TermKindEntry → Kind
kind_by ret k = elim k as (λ _. Kind) [
  | variant_term variant ↦ a_variant ret variant
  | struct_term ↦ a_struct ret
  | declared_term flags constructor_kind extractor_kind ↦ a_call flags (always_answers flags extractor_kind)
]

-- a term of a variant or of a struct gives its type, and takes its fields
pub variant_takes : (p : Program) → HasTypedParts p → (t : ℕ) (e : TermEntry) → slice_get p.terms t ≡ Some e → (ty i : ℕ) → kind_of e ≡ a_variant ty i
    → (e.ret_ty ≡ ty) × (variant_types (slice_get p.types ty) i ≡ Some e.arg_tys)
variant_takes p h t e there ty i q = grind (arith, common_steps)

pub struct_takes : (p : Program) → HasTypedParts p → (t : ℕ) (e : TermEntry) → slice_get p.terms t ≡ Some e → (ty : ℕ) → kind_of e ≡ a_struct ty
    → (e.ret_ty ≡ ty) × (struct_types (slice_get p.types ty) ≡ Some e.arg_tys)
struct_takes p h t e there ty q = grind (arith, common_steps)

-- 2. flags
-- what some flags allow: what is pure alone where they are pure, nothing multi where they aren't multi, and nothing partial
-- where they aren't partial
record Allows (flags own : Flags) : Type 0 where
  pure : flags.pure ≡ true → own.pure ≡ true
  multi : flags.multi ≡ false → own.multi ≡ false
  partial : flags.partial ≡ false → own.partial ≡ false

pub none_allowed : (b own : Bool) → (b || not own) ≡ true → b ≡ false → own ≡ false
none_allowed b own h e = grind (arith, common_steps)

-- 3. rules
module _ (p : Program) (flags : Flags) where
  allowed : (t : ℕ) → MayCall p flags t → Allows flags (flags_of (kind p t))
  allowed t = grind (arith, and_parts, none_allowed)

iflets_pure : (p : Program) (flags : Flags) (is : List TypedIfLet) → IfLetsMayCall p flags is → ArePureIfLets p is
iflets_pure p flags [] h = tt
iflets_pure p flags (i ∷ is) h = grind (arith, iflets_pure p flags is h.2, calls_such, allowed)

iflets_single : (p : Program) (flags : Flags) → flags.multi ≡ false → (is : List TypedIfLet) → IfLetsMayCall p flags is → IfLetsCallNoMulti p is
iflets_single p flags m [] h = tt
iflets_single p flags m (i ∷ is) h = grind (arith, iflets_single p flags m is h.2, calls_such, allowed)

-- if-lets call pure terms alone
pub pure_iflets : {p : Program} {r : TypedRule} → IsWellTypedRule p r → ArePureIfLets p r.iflets
pure_iflets {p = p} {r = r} h = iflets_pure p (flags_of (kind p r.root_term)) r.iflets h.conditions

-- where a rule's term isn't multi, no part of it calls a multi term
pub without_multi : {p : Program} {r : TypedRule} → IsWellTypedRule p r → is_multi p r.root_term ≡ false → CallsNoMulti p r
without_multi {p = p} {r = r} h m = grind (arith, common_steps, iflets_single p, iflets_single, calls_such, allowed)

-- where it is multi, the right side calls no partial term
pub without_partial : {p : Program} {r : TypedRule} → HasNoPartialMulti p → IsWellTypedRule p r → is_multi p r.root_term ≡ true → CallsAlone (λ t. is_partial p t ≡ false) r.rhs
without_partial {p = p} {r = r} neither h m = grind (arith, common_steps, calls_such, allowed)
