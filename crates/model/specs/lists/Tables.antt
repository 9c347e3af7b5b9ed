-- The shapes of the type table and of the term table, as plain data. Names, types and terms are numbers.
use Rattle.std.specs.Prelude.{ℕ, Bool, List, Option}
use Rattle.model.specs.lists.Syntax.{Position, PatternTree}

pub record FieldEntry : Type 0 where
  pub name : ℕ
  pub id : ℕ
  pub ty : ℕ

pub record TupleFieldEntry : Type 0 where
  pub id : ℕ
  pub ty : ℕ

pub data FieldEntries : Type 0 where
  unit_entries : FieldEntries
  struct_entries : (fields : List FieldEntry) → FieldEntries
  tuple_entries : (fields : List TupleFieldEntry) → FieldEntries

pub record VariantEntry : Type 0 where
  pub name : ℕ
  pub full_name : ℕ
  pub id : ℕ
  pub fields : FieldEntries
  pub at : Position

-- a type: a built-in one by its place among the built-in types, or one that a definition makes
pub data TypeEntry : Type 0 where
  builtin_type : (place : ℕ) → TypeEntry
  primitive_type : (id name : ℕ) (at : Position) → TypeEntry
  enum_type : (name id : ℕ) (is_extern is_nodebug : Bool) (variants : List VariantEntry) (at : Position) → TypeEntry
  struct_type : (name id : ℕ) (is_extern is_nodebug : Bool) (fields : FieldEntries) (at : Position) → TypeEntry

pub record Flags : Type 0 where
  pub pure : Bool
  pub multi : Bool
  pub partial : Bool
  pub rec : Bool

pub data ConstructorEntry : Type 0 where
  internal_constructor : ConstructorEntry
  external_constructor : (name : ℕ) → ConstructorEntry

pub data ExtractorEntry : Type 0 where
  internal_extractor : (template : PatternTree) → ExtractorEntry
  external_extractor : (name : ℕ) (infallible : Bool) (at : Position) → ExtractorEntry

pub data TermKindEntry : Type 0 where
  variant_term : (variant : ℕ) → TermKindEntry
  struct_term : TermKindEntry
  declared_term : (flags : Flags) (constructor_kind : Option ConstructorEntry) (extractor_kind : Option ExtractorEntry) → TermKindEntry

pub record TermEntry : Type 0 where
  pub id : ℕ
  pub at : Position
  pub name : ℕ
  pub arg_tys : List ℕ
  pub ret_ty : ℕ
  pub kind : TermKindEntry
