-- The fields of a type, as they are written, are as many as its types say.
use Rattle.std.proofs.Common.{◌≡◌, ℕ, true, List, length, Some, slice_get, arith}
use Rattle.std.proofs.lemmas.Grind.{common_steps}
use Rattle.model.specs.rules.Program.{Program}
use Rattle.model.specs.rules.Values.{variant_types, struct_types}
use Rattle.model.proofs.Elements.{some_is, none_some}
use Rattle.model_code.specs.Tokens.{variant_owner, struct_owner}
use Rattle.model_code.specs.ProgramNotation.{fields_of, shape_of}
use Rattle.model_code.specs.ReadsBack.{takes}

pub variant_taken : (p : Program) (ty i : ℕ) (tys : List ℕ) (n : ℕ) → variant_types (slice_get p.types ty) i ≡ Some tys → length tys ≡ n → takes (shape_of (fields_of p (variant_owner ty i))) n ≡ true
variant_taken p ty i tys n e h = grind (arith, common_steps, none_some, some_is)

pub struct_taken : (p : Program) (ty : ℕ) (tys : List ℕ) (n : ℕ) → struct_types (slice_get p.types ty) ≡ Some tys → length tys ≡ n → takes (shape_of (fields_of p (struct_owner ty))) n ≡ true
struct_taken p ty tys n e h = grind (arith, common_steps, some_is, none_some)
