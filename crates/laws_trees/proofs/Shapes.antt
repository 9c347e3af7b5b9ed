-- What a content is that meets a constraint of a rule that matches, and that one content meets one constraint.
use Rattle.std.proofs.Common.{◌≡◌, ℕ, ℤ, zero, suc, Bool, true, false, cond, List, [], ◌∷◌, length, Option, Some, None, is_some, slice_get, refl, sym, ap, subst, IsTrue, IsSomeAnd, arith}
use Rattle.std.proofs.lemmas.Bool.{and_parts, false≢true}
use Rattle.std.proofs.lemmas.Grind.{common_steps}
use Rattle.model.specs.lists.Tables.{TypeEntry, builtin_type, primitive_type, enum_type, struct_type}
use Rattle.model.specs.lists.Ranges.{is_literal_of}
use Rattle.model.specs.rules.Values.{Value, of_variant, of_struct, Values, no_value, value_and, listed, is_truth_type, is_atom_type, has_atoms, variant_types, struct_types, well_typed, all_well_typed}
use Rattle.model.specs.rules.Meaning.{Content, one, just, Meaning, bool_literal, int_literal, literal_value, constant_value}
use Rattle.model.specs.trees.Run.{content_fields}
use Rattle.model.specs.sites.Sites.{Constraint, is_variant, is_struct, is_bool, is_int, is_prim, is_present}
use Rattle.model.specs.sites.Serves.{is_type_with_parts}
use Rattle.laws_typing.specs.WellTypedPrograms.{HasTypes}
use Rattle.laws_trees.proofs.Demanded.{constant_found}

-- 1. types of values
truth_type : (types : List TypeEntry) → HasTypes types → (ty : ℕ) → is_truth_type (slice_get types ty) ≡ true → ty ≡ 0
truth_type types h ty t = by (slice_get types ty) refl t
  where
    by : (o : Option TypeEntry) → slice_get types ty ≡ o → is_truth_type o ≡ true → ty ≡ 0
    by (Some (builtin_type zero)) e i = sym (h.ids ty (builtin_type 0) e)
    by (Some (builtin_type (suc n))) e i = absurd (false≢true i)
    by (Some (primitive_type id name at)) e i = absurd (false≢true i)
    by (Some (enum_type name id a b vs at)) e i = absurd (false≢true i)
    by (Some (struct_type name id a b fs at)) e i = absurd (false≢true i)
    by None e i = absurd (false≢true i)

-- a value is of one type
pub one_type : (types : List TypeEntry) → HasTypes types → (v : Value) (a b : ℕ) → well_typed types a v ≡ true → well_typed types b v ≡ true → a ≡ b
one_type types h v a b s t = grind (arith, common_steps, truth_type, and_parts)

-- types without parts have no values with parts
no_fields : (types : List TypeEntry) (vs : Values) → all_well_typed types None vs ≡ false
no_fields types vs = grind (arith, common_steps)

pub no_variant : (types : List TypeEntry) (o : Option TypeEntry) (i : ℕ) (vs : Values) → is_type_with_parts o ≡ false → all_well_typed types (variant_types o i) vs ≡ true → ⊥
no_variant types o i vs h t = grind (arith, common_steps, no_fields)

pub no_struct : (types : List TypeEntry) (o : Option TypeEntry) (vs : Values) → is_type_with_parts o ≡ false → all_well_typed types (struct_types o) vs ≡ true → ⊥
no_struct types o vs h t = grind (arith, common_steps, no_fields)

-- a type of literals has atoms, and no parts
pub literals_are_atoms : (o : Option TypeEntry) → is_atom_type o ≡ true → has_atoms o ≡ true
literals_are_atoms o h = grind (arith, common_steps)

pub atom_without_parts : (o : Option TypeEntry) → is_atom_type o ≡ true → is_type_with_parts o ≡ false
atom_without_parts o h = grind (arith, common_steps)

pub literal_without_parts : (o : Option TypeEntry) (z : ℤ) → is_literal_of o z ≡ true → is_type_with_parts o ≡ false
literal_without_parts o z h = atom_without_parts o (and_parts (is_atom_type o) _ h).0

-- what holds of a value that is there
pub holds_there : {X : Type 0} (o : Option X) (f : X → Bool) (x : X) → o ≡ Some x → IsSomeAnd o (λ y. IsTrue (f y)) → f x ≡ true
holds_there o f x e h = subst (λ q. IsSomeAnd q (λ y. IsTrue (f y))) e h

-- as many values as types
pub as_many_values : (types : List TypeEntry) (tys : List ℕ) (vs : Values) → all_well_typed types (Some tys) vs ≡ true → length (listed vs) ≡ length tys
as_many_values types [] no_value h = refl
as_many_values types [] (value_and v vs) h = absurd (false≢true h)
as_many_values types (ty ∷ tys) no_value h = absurd (false≢true h)
as_many_values types (ty ∷ tys) (value_and v vs) h = ap suc (as_many_values types tys vs (and_parts (well_typed types ty v) (all_well_typed types (Some tys) vs) h).1)

-- 2. contents that meet constraints
-- by the value of the constant that it names, if it names one
abbrev pub HasForm : Meaning → Content → Constraint → Type 0
HasForm m c (is_variant ty i n) = (fs : Values) × (c ≡ one (of_variant ty i fs))
HasForm m c (is_struct ty n) = (fs : Values) × (c ≡ one (of_struct ty fs))
HasForm m c (is_bool b ty) = (v : Value) × (c ≡ one v) × (literal_value m (bool_literal b ty) ≡ Some v)
HasForm m c (is_int z ty) = (v : Value) × (c ≡ one v) × (literal_value m (int_literal z ty) ≡ Some v)
HasForm m c (is_prim name) = (v : Value) × (c ≡ one v) × (constant_value m name ≡ Some v)
HasForm m c is_present = (d : Content) × (c ≡ just d)

there_if : {X : Type 0} (b : Bool) (x : X) → is_some (cond b (Some x) None) ≡ true → b ≡ true
there_if b x h = grind (arith, common_steps)

pub has_form : (m : Meaning) (k : Constraint) (c : Content) → is_some (content_fields m k c) ≡ true → HasForm m c k
has_form m k c h = grind (arith, common_steps, and_parts, there_if, constant_found)
