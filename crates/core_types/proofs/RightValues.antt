-- Reading a type by its value: which types are right, and the entries that they become.
use Rattle.std.proofs.Common.{◌≡◌, ℕ, ◌&&◌, true, false, not, List, [], map, All, Option, Some, None, sym, ap, subst, ◌∙◌, arith}
use Rattle.std.proofs.lemmas.Bool.{false≢true}
use Rattle.std.proofs.lemmas.Grind.{common_steps}
use Rattle.model.specs.lists.Syntax.{Position, Name, FieldTrees, VariantTree, TypeTree, TypeValueTree, primitive_value, enum_value, struct_value, Definition}
use Rattle.model.specs.lists.Names.{number, with_name, IsDistinct}
use Rattle.core_syntax.specs.declared.syntax.Error.{Error}
use Rattle.core_syntax.specs.declared.syntax.Type as S
use Rattle.core_syntax.specs.SyntaxViews as views
use Rattle.core_types.specs.declared.type_env.TypeEnv.{TypeEnv}
use Rattle.core_types.specs.declared.types.Type as T
use Rattle.core_types.specs.Envs.{names_of}
use Rattle.core_types.specs.Reading.{MeetsNames, AreRightFields, IsRightType, ReadsType}
use Rattle.core_types.specs.VariantReading.{of_value, IsNumberOf}
use Rattle.core_types.proofs.NamesMet.{meet_more}
use Rattle.model.proofs.Names.{has_new, number_new, number_kept}

-- a name that is met has its number
pub named_now : (n : ℕ) (x : List ℕ) (old new : TypeEnv) → names_of new ≡ with_name (names_of old) x → n ≡ number (names_of old) x → IsNumberOf n x (names_of new)
named_now n x old new names numbered = grind (arith, common_steps, has_new (names_of old) x, number_new (names_of old) x)

-- and keeps it
pub number_later : (n : ℕ) (x : List ℕ) (xs : List (List ℕ)) (old new : TypeEnv) → MeetsNames xs old new → IsNumberOf n x (names_of old) → n ≡ number (names_of new) x
number_later n x xs old new m i = i.numbered ∙ sym (ap (λ ns. number ns x) m.names ∙ number_kept (names_of old) xs x i.met)

module _ (defs : List Definition) (t : TypeTree) (at : Position) where
  one_mark : false ≡ (t.is_extern && t.is_nodebug) → not (t.is_extern && t.is_nodebug) ≡ true
  one_mark e = sym (ap not e)

  pub two_marks : (value : TypeValueTree) → true ≡ (t.is_extern && t.is_nodebug) → IsRightType defs (of_value t value) → ⊥
  two_marks value e right = false≢true (ap not e ∙ right.marks)

  pub primitive_right : (name : Name) → t.is_nodebug ≡ false → t.is_extern ≡ false → IsRightType defs (of_value t (primitive_value name at))
  primitive_right name n e = grind (arith, common_steps)

  pub enum_right : (vs : List VariantTree) → false ≡ (t.is_extern && t.is_nodebug) → IsDistinct (map (λ v. v.name.text) vs) → All (AreRightFields defs) (map (λ v. v.fields) vs) → IsRightType defs (of_value t (enum_value vs at))
  enum_right vs e distinct fields = grind (arith, common_steps, one_mark e)

  pub struct_right : (fs : FieldTrees) → false ≡ (t.is_extern && t.is_nodebug) → AreRightFields defs fs → IsRightType defs (of_value t (struct_value fs at))
  struct_right fs e right = grind (arith, common_steps, one_mark e)

-- what is read by a type's value, once its own name was met again, is read by the type
pub type_kept : (defs : List Definition) (id : ℕ) (w : S.Type) (value : TypeValueTree) (o : Option T.Type) (old mid new : TypeEnv) (es es' : List Error) → views.type_value_view w.ty ≡ value → MeetsNames [] old mid → ReadsType defs id (of_value (views.type_view w) value) o mid es new es' → ReadsType defs id (views.type_view w) o old es new es'
type_kept defs id w value (Some read) old mid new es es' is m r =
    let P : TypeValueTree → Type 0 = λ v. ReadsType defs id (of_value (views.type_view w) v) (Some read) mid es new es' in
    let a = subst P (sym is) r in
    (a.0, a.1, meet_more [] _ old mid new m a.2, a.3)
type_kept defs id w value None old mid new es es' is m r = grind (arith, common_steps, meet_more [])
