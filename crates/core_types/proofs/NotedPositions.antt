-- What is noted at the positions of a part of a definition is noted at those of the whole.
use Rattle.std.proofs.Common.{◌≡◌, ℕ, ◌<◌, List, [], ◌∷◌, length, get_or, map, Contains, sym, subst}
use Rattle.std.specs.List.{flat_map}
use Rattle.model.specs.lists.Syntax.{Position, FieldTree, TupleFieldTree, VariantTree, TypeTree}
use Rattle.model.proofs.Members.{in_head, in_tail, in_map}
use Rattle.core_syntax.specs.declared.syntax.Error.{Error}
use Rattle.core_syntax.specs.Positions.{OccurAmong, field_positions, tuple_field_positions, fields_positions, variant_positions, value_positions, type_positions}
use Rattle.core_syntax.proofs.Positioned.{among_one, among_first, among_each}
use Rattle.core_types.specs.ToldErrors.{Notes}
use Rattle.core_types.proofs.ToldErrors.{noted_among}

-- the place of a field's type
pub field_type_among : (f : FieldTree) → OccurAmong (f.ty.at ∷ []) (field_positions f)
field_type_among f =
    among_one f.ty.at (field_positions f) (in_tail f.at f.ty.at (f.name.at ∷ f.ty.at ∷ []) (in_tail f.name.at f.ty.at (f.ty.at ∷ []) (in_head f.ty.at [])))

pub tuple_type_among : (f : TupleFieldTree) → OccurAmong (f.ty.at ∷ []) (tuple_field_positions f)
tuple_type_among f = among_one f.ty.at (tuple_field_positions f) (in_tail f.at f.ty.at (f.ty.at ∷ []) (in_head f.ty.at []))

pub variant_fields_among : (v : VariantTree) → OccurAmong (fields_positions v.fields) (variant_positions v)
variant_fields_among v p c =
    in_tail v.at p (v.name.at ∷ fields_positions v.fields) (in_tail v.name.at p (fields_positions v.fields) c)

-- what stands in the value of a type, behind the value's own place
pub value_among : (t : TypeTree) (at : Position) (ps : List Position) → value_positions t.value ≡ at ∷ ps → OccurAmong ps (type_positions t)
value_among t at ps is p c =
    in_tail t.at p (t.name.at ∷ value_positions t.value) (in_tail t.name.at p (value_positions t.value) (subst (λ qs. Contains qs p) (sym is) (in_tail at p ps c)))

-- what is noted at a place itself
pub noted_there : (q : Position) (ps : List Position) (old new : List Error) → Notes 1 (q ∷ []) old new → Notes 1 (q ∷ ps) old new
noted_there q ps old new this = noted_among 1 (q ∷ []) (q ∷ ps) old new (among_first q ps) this

-- one of the parts of a list, as they lie in memory, where nothing was noted of those before
module _ {X Y : Type 0} (positions : Y → List Position) (view : X → Y) (xs : List X) (i : ℕ) (x : X) (within : i < length xs) (at : x ≡ get_or xs i x) where
  pub noted_first : (old now new : List Error) → now ≡ old → Notes 1 (positions (view x)) now new → Notes 1 (flat_map positions (map view xs)) old new
  noted_first old now new same this =
      subst (λ es. Notes 1 (flat_map positions (map view xs)) es new) same
      (noted_among 1 (positions (view x)) (flat_map positions (map view xs)) now new (among_each positions (map view xs) (view x) (in_map view xs x (i, within, sym at))) this)
