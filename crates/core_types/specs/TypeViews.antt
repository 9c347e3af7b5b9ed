-- What the types of the code say, as entries of the type table.
use Rattle.std.specs.Prelude.{List, map}
use Rattle.model.specs.lists.Tables.{FieldEntry, TupleFieldEntry, FieldEntries, unit_entries, struct_entries, tuple_entries, VariantEntry, TypeEntry, builtin_type, primitive_type, enum_type, struct_type}
use Rattle.core_syntax.specs.SyntaxViews.{position}
use Rattle.core_types.specs.Builtin.{builtin_place}
use Rattle.core_types.specs.declared.types.StructField.{StructField}
use Rattle.core_types.specs.declared.types.TupleField.{TupleField}
use Rattle.core_types.specs.declared.types.Fields.{Fields}
use Rattle.core_types.specs.declared.types.Fields.TheVariants as F
use Rattle.core_types.specs.declared.types.Variant.{Variant}
use Rattle.core_types.specs.declared.types.Type as T
use Rattle.core_types.specs.declared.types.Type.TheVariants as V

abbrev pub field_view : StructField → FieldEntry
field_view f = record { name = f.name.0; id = f.id.0; ty = f.ty.0 }

abbrev pub tuple_field_view : TupleField → TupleFieldEntry
tuple_field_view f = record { id = f.id.0; ty = f.ty.0 }

abbrev pub fields_view : Fields → FieldEntries
fields_view F.Unit = unit_entries
fields_view (F.Struct fs) = struct_entries (map field_view fs.fields.items)
fields_view (F.Tuple fs) = tuple_entries (map tuple_field_view fs.fields.items)

abbrev pub variant_view : Variant → VariantEntry
variant_view v = record { name = v.name.0; full_name = v.fullname.0; id = v.id.0; fields = fields_view v.fields; at = position v.pos }

abbrev pub type_view : T.Type → TypeEntry
type_view (V.Builtin b) = builtin_type (builtin_place b)
type_view (V.Primitive id name pos) = primitive_type id.0 name.0 (position pos)
type_view (V.Enum name id is_extern is_nodebug variants pos) = enum_type name.0 id.0 is_extern is_nodebug (map variant_view variants.items) (position pos)
type_view (V.Struct name id is_extern is_nodebug fields pos) = struct_type name.0 id.0 is_extern is_nodebug (fields_view fields) (position pos)

abbrev pub type_views : List T.Type → List TypeEntry
type_views ts = map type_view ts
