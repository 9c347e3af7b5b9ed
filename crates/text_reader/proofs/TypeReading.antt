-- Types that are read: their fields without names.
use Rattle.std.proofs.Common.{◌≡◌, ℕ, suc, ◌+◌, List, [], ◌∷◌, ◌++◌, length, map, arith}
use Rattle.std.proofs.lemmas.List.{map-append, length-map}
use Rattle.std.proofs.lemmas.Grind.{common_steps}
use Rattle.model.specs.lists.Syntax.{Name, TupleFieldTree}
use Rattle.core_syntax.specs.declared.syntax.TupleField.{TupleField}
use Rattle.core_syntax.specs.SyntaxViews.{name_view, tuple_field_view}
use Rattle.text_reader.specs.TypeGrammar.{numbered_from}

-- the field of this type that has this number
abbrev numbered_field : ℕ → Name → TupleFieldTree
numbered_field i ty = record { index = i; ty = ty; at = ty.at }

one_more : (i : ℕ) (tys : List Name) (ty : Name) → numbered_from i (tys ++ ty ∷ []) ≡ numbered_from i tys ++ numbered_field (i + length tys) ty ∷ []
one_more i [] ty = grind (arith, common_steps)
one_more i (first ∷ tys) ty = grind (arith, common_steps, one_more (suc i) tys ty)

abbrev pub type_of : TupleField → Name
type_of f = name_view f.ty

-- fields have the numbers of their places
abbrev pub AreNumbered : List TupleField → Type 0
AreNumbered fs = numbered_from 0 (map type_of fs) ≡ map tuple_field_view fs

pub numbered_push : (old new : List TupleField) (f : TupleField) → f.index ≡ length old → f.pos ≡ f.ty.1 → new ≡ old ++ f ∷ [] → AreNumbered old → AreNumbered new
numbered_push old new f number place pushed so_far = grind (arith, common_steps, length-map, map-append, one_more)
