-- Types by their numbers.
use Rattle.std.specs.Prelude.{ℕ, List, map, Option, option_map}
use Rattle.core_types.specs.declared.ids.TypeId.{TypeId}

abbrev pub type_number : Option TypeId → Option ℕ
type_number o = option_map (λ t. t.0) o

abbrev pub type_numbers : List TypeId → List ℕ
type_numbers ts = map (λ t. t.0) ts
