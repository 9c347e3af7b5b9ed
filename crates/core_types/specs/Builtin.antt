-- The built-in types: their names, and their places in the list of them all.
use Rattle.std.specs.Prelude.{ℕ, List, true, false, codes, Bool as Truth}
use Rattle.core_types.specs.declared.ids.TypeId.{TypeId}
use Rattle.core_types.specs.declared.builtin.BuiltinType.{BuiltinType}
use Rattle.core_types.specs.declared.builtin.BuiltinType.TheVariants.{Bool, Int}
use Rattle.core_types.specs.declared.builtin.IntType.{IntType}
use Rattle.core_types.specs.declared.builtin.IntType.TheVariants.{U8, U16, U32, U64, U128, USize, I8, I16, I32, I64, I128, ISize}

abbrev pub int_name : IntType → List ℕ
int_name U8 = codes "u8"
int_name U16 = codes "u16"
int_name U32 = codes "u32"
int_name U64 = codes "u64"
int_name U128 = codes "u128"
int_name USize = codes "usize"
int_name I8 = codes "i8"
int_name I16 = codes "i16"
int_name I32 = codes "i32"
int_name I64 = codes "i64"
int_name I128 = codes "i128"
int_name ISize = codes "isize"

abbrev pub int_signed : IntType → Truth
int_signed U8 = false
int_signed U16 = false
int_signed U32 = false
int_signed U64 = false
int_signed U128 = false
int_signed USize = false
int_signed I8 = true
int_signed I16 = true
int_signed I32 = true
int_signed I64 = true
int_signed I128 = true
int_signed ISize = true

abbrev pub builtin_name : BuiltinType → List ℕ
builtin_name Bool = codes "bool"
builtin_name (Int ty) = int_name ty

-- the number of a built-in type: the boolean one, then the integers, those without a sign first
abbrev pub builtin_place : BuiltinType → ℕ
builtin_place Bool = 0
builtin_place (Int U8) = 1
builtin_place (Int U16) = 2
builtin_place (Int U32) = 3
builtin_place (Int U64) = 4
builtin_place (Int U128) = 5
builtin_place (Int USize) = 6
builtin_place (Int I8) = 7
builtin_place (Int I16) = 8
builtin_place (Int I32) = 9
builtin_place (Int I64) = 10
builtin_place (Int I128) = 11
builtin_place (Int ISize) = 12

abbrev pub builtin_id : BuiltinType → TypeId
builtin_id b = record { 0 = builtin_place b }
