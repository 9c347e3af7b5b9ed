-- Steps of what opens enums and structs.
use Rattle.std.proofs.Common.{◌≡◌, ℕ, ◌≤◌, suc, Bool, not, List, [], ◌∷◌, length, map, Some, refl, arith}
use Rattle.std.proofs.lemmas.List.{append_assoc}
use Rattle.laws_specs.specs.Specs.{Specs, sort_of}
use Rattle.model.specs.lists.Tables.{FieldEntries, unit_entries, struct_entries, tuple_entries, VariantEntry, builtin_type, enum_type}
use Rattle.model.specs.lists.Syntax.{Position}
use Rattle.model.specs.rules.Values.{field_types}
use Rattle.core_types.specs.Builtin.{builtin_place}
use Rattle.core_types.specs.declared.builtin.BuiltinType.TheVariants.{Int}
use Rattle.core_types.specs.declared.builtin.IntType.{IntType}
use Rattle.core_types.specs.declared.builtin.IntType.TheVariants.{U8, U16, U32, U64, U128, USize, I8, I16, I32, I64, I128, ISize}
use Rattle.core_types.specs.Types.{entry_field_types}
use Rattle.core_types.specs.declared.types.Variant.{Variant}
use Rattle.core_types.specs.TypeViews.{variant_view}
use Rattle.model_questions.specs.Formulas as M
use Rattle.model_questions.specs.Evaluated as E
use Rattle.spec_cases.specs.Variants.{is_empty}
use Rattle.spec_cases.proofs.AppliedSteps.{one_seen, anything_seen}
use Rattle.spec_cases.proofs.PairSteps.{cases_pushed}

-- the types of fields are said twice
pub types_seen : (fs : FieldEntries) → entry_field_types fs ≡ field_types fs
types_seen unit_entries = refl
types_seen (struct_entries fs) = refl
types_seen (tuple_entries fs) = refl

-- variants: there are more, or there are none
pub variants_more : (g : M.Fact) (ty : ℕ) (at : M.Place) (i : ℕ) (v : Variant) (vs : List Variant) → 1 ≤ length vs
    → E.one_variant g ty at i (map variant_view (v ∷ vs))
    ≡ record { guard = M.both_of g (M.is_kind at i); gives = E.variant_at ty at i (variant_view v) } ∷ E.one_variant (M.both_of g (M.none_of (M.is_kind at i))) ty at (suc i) (map variant_view vs)
variants_more g ty at i v [] h = absurd (omega arith)
variants_more g ty at i v (w ∷ vs) h = refl

pub ruleset variant_steps = (variants_more, cases_pushed, append_assoc)

pub variants_there : (name id : ℕ) (is_extern is_nodebug : Bool) (vs : List VariantEntry) (place : Position) → E.is_enum_of_variants (Some (enum_type name id is_extern is_nodebug vs place)) ≡ not (is_empty vs)
variants_there name id is_extern is_nodebug [] place = refl
variants_there name id is_extern is_nodebug (v ∷ vs) place = refl

-- built-in integers have sorts
module _ (s : Specs) (k : E.Known) (ty : ℕ) (at : M.Place) where
  pub integers_at : (t : IntType) → E.at_type s k ty at (Some (builtin_type (builtin_place (Int t)))) ≡ E.at_sort k at (sort_of s ty)
  integers_at U8 = refl
  integers_at U16 = refl
  integers_at U32 = refl
  integers_at U64 = refl
  integers_at U128 = refl
  integers_at USize = refl
  integers_at I8 = refl
  integers_at I16 = refl
  integers_at I32 = refl
  integers_at I64 = refl
  integers_at I128 = refl
  integers_at ISize = refl

pub ruleset entry_steps = (integers_at, one_seen, anything_seen)

pub ruleset struct_steps = (types_seen, one_seen)
