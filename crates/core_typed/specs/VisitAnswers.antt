-- Answers of a visit's calls, without where their parts lie in memory.
use Rattle.std.specs.Prelude.{ℕ, List, map, Result, Ok, Err, Vec}
use Rattle.core_types.specs.declared.ids.TypeId.{TypeId}

-- the answer, with the list of a vector in its place
abbrev pub listed : {A E Z : Type 0} → Result (Vec A Z) E → Result (List A) E
listed (Ok v) = Ok v.items
listed (Err e) = Err e

-- types by their numbers
abbrev pub type_numbers : List TypeId → List ℕ
type_numbers tys = map (λ ty. ty.0) tys

-- ids, each with the number of its type
abbrev pub typed_inputs : {E : Type 0} → List (E × TypeId) → List (E × ℕ)
typed_inputs xs = map (λ x. (x.0, x.1.0)) xs

-- the answer, with the list of a vector of such ids in its place
abbrev pub inputs_of : {E F Z : Type 0} → Result (Vec (E × TypeId) Z) F → Result (List (E × ℕ)) F
inputs_of (Ok v) = Ok (typed_inputs v.items)
inputs_of (Err e) = Err e
