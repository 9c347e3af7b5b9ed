-- Built-in types of integers by their places.
use Rattle.std.proofs.Common.{◌≡◌, ℕ, zero, suc, ℤ, Option, Some, None, slice_get, refl, sym, ap}
use Rattle.std.specs.Prelude.{nat_lt}
use Rattle.model.specs.lists.Signatures.{text_of}
use Rattle.model.specs.lists.Tables.{TypeEntry, builtin_type, primitive_type, enum_type, struct_type}
use Rattle.model.specs.lists.TypeTable.{builtin_names}
use Rattle.model_code.specs.ProgramNotation.{ending_in}
use Rattle.core_types.specs.Builtin.{builtin_place, int_name, int_signed}
use Rattle.core_types.specs.declared.builtin.BuiltinType.TheVariants.{Int}
use Rattle.core_types.specs.declared.builtin.IntType.{IntType}
use Rattle.core_types.specs.declared.builtin.IntType.TheVariants.{U8, U16, U32, U64, U128, USize, I8, I16, I32, I64, I128, ISize}
use Rattle.rust_text.specs.ProgramNames.{NameSetting, int_at, int_place_in, integer_written, number_written}

pub signed_place : (ty : IntType) → nat_lt 6 (builtin_place (Int ty)) ≡ int_signed ty
signed_place U8 = refl
signed_place U16 = refl
signed_place U32 = refl
signed_place U64 = refl
signed_place U128 = refl
signed_place USize = refl
signed_place I8 = refl
signed_place I16 = refl
signed_place I32 = refl
signed_place I64 = refl
signed_place I128 = refl
signed_place ISize = refl

pub name_at_place : (ty : IntType) → text_of builtin_names (builtin_place (Int ty)) ≡ int_name ty
name_at_place U8 = refl
name_at_place U16 = refl
name_at_place U32 = refl
name_at_place U64 = refl
name_at_place U128 = refl
name_at_place USize = refl
name_at_place I8 = refl
name_at_place I16 = refl
name_at_place I32 = refl
name_at_place I64 = refl
name_at_place I128 = refl
name_at_place ISize = refl

pub int_place_at : (ty : IntType) → Some (builtin_place (Int ty)) ≡ int_place_in (Some (builtin_type (builtin_place (Int ty))))
int_place_at U8 = refl
int_place_at U16 = refl
int_place_at U32 = refl
int_place_at U64 = refl
int_place_at U128 = refl
int_place_at USize = refl
int_place_at I8 = refl
int_place_at I16 = refl
int_place_at I32 = refl
int_place_at I64 = refl
int_place_at I128 = refl
int_place_at ISize = refl

-- what stands behind digits is the number of a built-in type
none_behind : (s : NameSetting) (z : ℤ) (o : Option TypeEntry) → number_written s z (ending_in o 0) ≡ integer_written z None
none_behind s z None = refl
none_behind s z (Some (builtin_type place)) = refl
none_behind s z (Some (primitive_type id name at)) = refl
none_behind s z (Some (enum_type name id is_extern is_nodebug variants at)) = refl
none_behind s z (Some (struct_type name id is_extern is_nodebug fields at)) = refl

behind : (s : NameSetting) (z : ℤ) (k : ℕ) (o : Option TypeEntry) → slice_get s.types (suc k) ≡ o → integer_written z (int_place_in (slice_get s.types (suc k))) ≡ number_written s z (ending_in o (suc k))
behind s z k None e = ap (λ o. integer_written z (int_place_in o)) e
behind s z k (Some (builtin_type place)) e = refl
behind s z k (Some (primitive_type id name at)) e = ap (λ o. integer_written z (int_place_in o)) e
behind s z k (Some (enum_type name id is_extern is_nodebug variants at)) e = ap (λ o. integer_written z (int_place_in o)) e
behind s z k (Some (struct_type name id is_extern is_nodebug fields at)) e = ap (λ o. integer_written z (int_place_in o)) e

pub number_at : (s : NameSetting) (z : ℤ) (ty : ℕ) → integer_written z (int_at s ty) ≡ number_written s z (ending_in (slice_get s.types ty) ty)
number_at s z zero = sym (none_behind s z (slice_get s.types 0))
number_at s z (suc k) = behind s z k (slice_get s.types (suc k)) refl
