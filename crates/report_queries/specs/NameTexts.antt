-- The texts of names, by the ids of what they name.
use Rattle.std.specs.Prelude.{ℕ, List, Option, slice_get}
use Rattle.cranelift_isle.specs.Questions.{variant_by_id}
use Rattle.cranelift_isle.specs.Tables.{TermEntry, TypeEntry}
use Rattle.cranelift_isle.specs.Outcome.{then_option}
use Rattle.cranelift_isle.specs.Typed.{TypedRule}
use Rattle.cranelift_isle.specs.Types.{type_text}

abbrev pub name_of_term : List (List ℕ) → List TermEntry → ℕ → Option (List ℕ)
name_of_term names terms id = then_option (slice_get terms id) (λ t. slice_get names t.name)

abbrev pub name_of_type : List (List ℕ) → List TypeEntry → ℕ → Option (List ℕ)
name_of_type names types id = then_option (slice_get types id) (type_text names)

abbrev pub name_of_variant : List (List ℕ) → List TypeEntry → ℕ → ℕ → Option (List ℕ)
name_of_variant names types ty variant = then_option (variant_by_id types ty variant) (λ v. slice_get names v.name)

-- with the name of its enum
abbrev pub full_name_of_variant : List (List ℕ) → List TypeEntry → ℕ → ℕ → Option (List ℕ)
full_name_of_variant names types ty variant = then_option (variant_by_id types ty variant) (λ v. slice_get names v.full_name)

abbrev pub name_of_rule : List (List ℕ) → List TypedRule → ℕ → Option (List ℕ)
name_of_rule names rules id = then_option (slice_get rules id) (λ r. then_option r.name (slice_get names))
