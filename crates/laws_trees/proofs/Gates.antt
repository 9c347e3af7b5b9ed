-- What a demanded gate says of a rule's constraints.
use Rattle.std.proofs.Common.{◌≡◌, ℕ, ◌<◌, Bool, true, List, [], ◌∷◌, Contains, inl, inr, arith}
use Rattle.std.specs.List.{list_any}
use Rattle.std.proofs.lemmas.Bool.{and_parts, or_cases, false≢true}
use Rattle.std.proofs.lemmas.Grind.{common_steps}
use Rattle.model.specs.sites.Sites.{Constraint, is_variant, is_struct, is_present}
use Rattle.model.proofs.Members.{in_head, in_tail}
use Rattle.model.specs.sites.Gates.{asks_answer, asks_struct, asks_variant}

some_passes : {X : Type 0} (p : X → Bool) (xs : List X) → list_any p xs ≡ true → (x : X) × Contains xs x × (p x ≡ true)
some_passes p [] h = absurd (false≢true h)
some_passes p (x ∷ xs) h = elim (or_cases (p x) (list_any p xs) h) [ inl t ↦ (x, in_head x xs, t) | inr t ↦ let r = some_passes p xs t in (r.0, in_tail x r.0 xs r.1, r.2) ]

module _ (ds : List (ℕ × Constraint)) where
  abbrev BringsVariant : ℕ → ℕ → ℕ → Type 0
  BringsVariant source variant field = (ty fields : ℕ) × Contains ds (source, is_variant ty variant fields) × (field < fields)

  abbrev BringsStruct : ℕ → ℕ → Type 0
  BringsStruct source field = (ty fields : ℕ) × Contains ds (source, is_struct ty fields) × (field < fields)

  variant_asked : (source variant field : ℕ) (d : ℕ × Constraint) → Contains ds d → asks_variant source variant field d ≡ true → BringsVariant source variant field
  variant_asked source variant field d c h = grind (arith, common_steps, and_parts)

  struct_asked : (source field : ℕ) (d : ℕ × Constraint) → Contains ds d → asks_struct source field d ≡ true → BringsStruct source field
  struct_asked source field d c h = grind (arith, common_steps, and_parts)

  answer_asked : (source : ℕ) (d : ℕ × Constraint) → Contains ds d → asks_answer source d ≡ true → Contains ds (source, is_present)
  answer_asked source d c h = grind (arith, common_steps)

  pub variant_gate : (source variant field : ℕ) → list_any (asks_variant source variant field) ds ≡ true → BringsVariant source variant field
  variant_gate source variant field h = let x = some_passes (asks_variant source variant field) ds h in variant_asked source variant field x.0 x.1 x.2

  pub struct_gate : (source field : ℕ) → list_any (asks_struct source field) ds ≡ true → BringsStruct source field
  struct_gate source field h = let x = some_passes (asks_struct source field) ds h in struct_asked source field x.0 x.1 x.2

  pub answer_gate : (source : ℕ) → list_any (asks_answer source) ds ≡ true → Contains ds (source, is_present)
  answer_gate source h = let x = some_passes (asks_answer source) ds h in answer_asked source x.0 x.1 x.2
