-- Fields that are written one after another, each by its place.
use Rattle.std.proofs.Common.{◌≡◌, ◌++◌, ◌∷◌, ◌+◌, ℕ, List, map}
use Rattle.cranelift_isle.specs.TypeViews.{field_view, tuple_field_view}
use Rattle.core_types.specs.declared.types.StructField.{StructField}
use Rattle.core_types.specs.declared.types.TupleField.{TupleField}
use Rattle.rust_items.proofs.GrownTexts.{next_place}
use Rattle.rust_items.specs.WrittenItems.{ItemSetting, named_field_written, named_fields_written, unnamed_field_written, unnamed_fields_written}

module _ (s : ItemSetting) (word : List ℕ) where
  abbrev pub named_fields_of : ℕ → List StructField → List ℕ
  named_fields_of i fs = named_fields_written s word i (map field_view fs)

  abbrev pub named_field_of : ℕ → StructField → List ℕ
  named_field_of i f = named_field_written s word i (field_view f)

  pub one_named_field : (i : ℕ) (f : StructField) (fs : List StructField) → named_fields_of i (f ∷ fs) ≡ named_field_of i f ++ named_fields_of (i + 1) fs
  one_named_field i f fs = next_place (λ k. named_field_of i f ++ named_fields_of k fs) i

  abbrev pub unnamed_fields_of : ℕ → List TupleField → List ℕ
  unnamed_fields_of i fs = unnamed_fields_written s word i (map tuple_field_view fs)

  abbrev pub unnamed_field_of : ℕ → TupleField → List ℕ
  unnamed_field_of i f = unnamed_field_written s word i (tuple_field_view f)

  pub one_unnamed_field : (i : ℕ) (f : TupleField) (fs : List TupleField) → unnamed_fields_of i (f ∷ fs) ≡ unnamed_field_of i f ++ unnamed_fields_of (i + 1) fs
  one_unnamed_field i f fs = next_place (λ k. unnamed_field_of i f ++ unnamed_fields_of k fs) i
