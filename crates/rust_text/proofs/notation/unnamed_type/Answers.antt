use Rattle.std.proofs.Common.{sym}
use Rattle.core_types.specs.TypeViews.{tuple_field_view}
use Rattle.rust_text.proofs.FieldTypes.{field_found, field_missing}
use Rattle.rust_text.proofs.notation.unnamed_type.Goals as goal

pub returns-in-Some : goal.returns-in-Some
returns-in-Some c = sym (field_found c.args.fields.now c.args.index tuple_field_view (λ f. f.ty) c.in-Some.field.now c.in-Some.ensures.lookup.3.0 c.in-Some.ensures.lookup.1)

pub returns-in-None : goal.returns-in-None
returns-in-None c = sym (field_missing c.args.fields.now c.args.index tuple_field_view (λ f. f.ty) c.in-None.ensures.lookup.3)
