use Rattle.std.proofs.Common.{refl, sym}
use Rattle.run_terms.proofs.ValueSteps.{same_of_variants, same_of_structs}
use Rattle.run_terms.proofs.values.+same.Goals as goal

pub same_value-returns-then-same_variant : goal.same_value-returns-then-same_variant
same_value-returns-then-same_variant t c =
    let v = c.in-Variant-Variant in
    same_of_variants c.args.a.now c.args.b.now v.s v.t v.i v.j v.xs v.ys c.same_values.result v.is-0 v.is-1 (sym c.if-same_variant.ensures)
    (rw (c.same_values.ensures, c.deref.ensures.value, c.deref-then-same_variant.ensures.value) refl)

pub same_value-returns-then-same_type : goal.same_value-returns-then-same_type
same_value-returns-then-same_type t c =
    let v = c.in-Struct-Struct in
    same_of_structs c.args.a.now c.args.b.now v.s v.t v.xs v.ys c.same_values-then-same_type.result v.is-0 v.is-1 (sym c.if-same_type.ensures)
    (rw (c.same_values-then-same_type.ensures, c.deref-then-same_type.ensures.value, c.deref-then-same_type-2.ensures.value) refl)
