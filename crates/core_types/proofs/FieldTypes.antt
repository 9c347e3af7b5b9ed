-- The types of fields, read off the fields or off their views.
use Rattle.std.proofs.Common.{◌≡◌, List, [], ◌∷◌, map, refl, ap}
use Rattle.core_types.specs.declared.types.StructField.{StructField}
use Rattle.core_types.specs.declared.types.TupleField.{TupleField}
use Rattle.core_types.specs.TypeViews.{field_view, tuple_field_view}

pub types_of_struct : (fs : List StructField) → map (λ ty. ty.0) (map (λ f. f.ty) fs) ≡ map (λ f. f.ty) (map field_view fs)
types_of_struct [] = refl
types_of_struct (f ∷ fs) = ap (λ tys. f.ty.0 ∷ tys) (types_of_struct fs)

pub types_of_tuple : (fs : List TupleField) → map (λ ty. ty.0) (map (λ f. f.ty) fs) ≡ map (λ f. f.ty) (map tuple_field_view fs)
types_of_tuple [] = refl
types_of_tuple (f ∷ fs) = ap (λ tys. f.ty.0 ∷ tys) (types_of_tuple fs)
