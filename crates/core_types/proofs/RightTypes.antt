-- The types of a valid list are right one by one, and with the names and the constants nothing else is asked.
use Rattle.std.proofs.Common.{List, [], ◌∷◌, ◌++◌, All}
use Rattle.std.specs.List.{flat_map}
use Rattle.std.proofs.lemmas.List.Elements.{All-nil, All-cons, All-head, All-tail, All-append, All-weaker}
use Rattle.model.specs.lists.Syntax.{FieldTrees, TypeTree, Definition}
use Rattle.model.specs.lists.Names.{IsDistinct}
use Rattle.model.specs.lists.TypeTable.{all_type_names, type_trees, constant_trees, field_lists_of, field_lists, IsUnmarkedIfPrimitive, HasAtMostOneMark, HasDistinctVariants, HasDistinctFields, HasKnownTypes, IsOfKnownType, IsValidTypes}
use Rattle.core_types.specs.Reading.{AreRightFields, IsRightType}

module _ {X : Type 0} (P : X → Type 0) where
  pub all_left : (xs ys : List X) → All P (xs ++ ys) → All P xs
  all_left [] ys h = All-nil P
  all_left (x ∷ xs) ys h = All-cons P x xs (All-head P x (xs ++ ys) h) (all_left xs ys (All-tail P x (xs ++ ys) h))

  pub all_right : (xs ys : List X) → All P (xs ++ ys) → All P ys
  all_right [] ys h = h
  all_right (x ∷ xs) ys h = all_right xs ys (All-tail P x (xs ++ ys) h)

  module _ {A : Type 0} (f : A → List X) where
    -- what all elements of all lists meet, each list's meet
    pub all_each : (xs : List A) → All P (flat_map f xs) → All (λ a. All P (f a)) xs
    all_each [] h = All-nil (λ a. All P (f a))
    all_each (a ∷ rest) h =
        All-cons (λ b. All P (f b)) a rest (all_left (f a) (flat_map f rest) h) (all_each rest (all_right (f a) (flat_map f rest) h))

    pub all_together : (xs : List A) → All (λ a. All P (f a)) xs → All P (flat_map f xs)
    all_together [] h = All-nil P
    all_together (a ∷ rest) h =
        All-append P (f a) (flat_map f rest) (All-head (λ b. All P (f b)) a rest h) (all_together rest (All-tail (λ b. All P (f b)) a rest h))

module _ (defs : List Definition) where
  abbrev fields_of : TypeTree → List FieldTrees
  fields_of t = field_lists_of t.value

  all_fields : All HasDistinctFields (field_lists defs) → All (HasKnownTypes defs) (field_lists defs) → All (AreRightFields defs) (field_lists defs)
  all_fields d k i z lt = record { distinct = d i z lt; known = k i z lt }

  pub types_right : IsValidTypes defs → All (IsRightType defs) (type_trees defs)
  types_right v =
      let fields : All (λ t. All (AreRightFields defs) (fields_of t)) (type_trees defs) =
      all_each (AreRightFields defs) fields_of (type_trees defs) (all_fields v.fields v.types_of_fields) in
      λ i z lt. record { unmarked = v.primitives i z lt; marks = v.marks i z lt; variants = v.variants i z lt; fields = fields i z lt }

  pub types_valid : IsDistinct (all_type_names defs) → All (IsRightType defs) (type_trees defs) → All (IsOfKnownType defs) (constant_trees defs) → IsValidTypes defs
  types_valid once right constants =
      let fields : All (AreRightFields defs) (field_lists defs) =
      all_together (AreRightFields defs) fields_of (type_trees defs) (All-weaker (IsRightType defs) (λ t. All (AreRightFields defs) (fields_of t)) (λ t r. r.fields) (type_trees defs) right) in
      record {
        distinct = once;
        primitives = All-weaker (IsRightType defs) IsUnmarkedIfPrimitive (λ t r. r.unmarked) (type_trees defs) right;
        marks = All-weaker (IsRightType defs) HasAtMostOneMark (λ t r. r.marks) (type_trees defs) right;
        variants = All-weaker (IsRightType defs) HasDistinctVariants (λ t r. r.variants) (type_trees defs) right;
        fields = All-weaker (AreRightFields defs) HasDistinctFields (λ f r. r.distinct) (field_lists defs) fields;
        types_of_fields = All-weaker (AreRightFields defs) (HasKnownTypes defs) (λ f r. r.known) (field_lists defs) fields;
        types_of_constants = constants;
      }
