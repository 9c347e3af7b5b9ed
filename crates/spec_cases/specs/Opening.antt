-- The places of fields.
use Rattle.std.specs.Prelude.{ℕ}
use Rattle.model_questions.specs.Formulas as M
use Rattle.spec_cases.specs.declared.opening.Around.{Around}
use Rattle.spec_cases.specs.declared.opening.Around.TheVariants as A
use Rattle.spec_cases.specs.Namings.{Naming}

-- the place of a field
abbrev pub place_in : Naming → Around → ℕ → M.Place
place_in v A.Arguments i = M.argument_at i
place_in v (A.Outputs s) i = M.output_at (v.site s) i
place_in v (A.Variant p ty k) i = M.variant_field_at (v.place p.0) ty.0 k.0 i
place_in v (A.Struct p ty) i = M.struct_field_at (v.place p.0) ty.0 i
