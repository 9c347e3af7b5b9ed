use Rattle.std.proofs.Common.{refl, arith}
use Rattle.rust_items.specs.ItemViews.{items_by}
use Rattle.rust_items.proofs.GrownFields.{named_fields_of, named_field_of, one_named_field}
use Rattle.rust_items.proofs.GrownTexts.{place_written_more, places_written}
use Rattle.rust_items.proofs.types.push_named.Goals as goal

pub loop-i-preserved : goal.loop-i-preserved
loop-i-preserved c =
    let s = items_by c.args.program in
    place_written_more (named_fields_of s c.args.word.now) (named_field_of s c.args.word.now) (λ i. refl) (one_named_field s c.args.word.now) c.args.fields.now c.loop-i.i _ _ _ _ c.loop-i-test.true c.loop-i.invariant c.in_ok-push_named_field.ensures

pub returns : goal.returns
returns c =
    let s = items_by c.args.program in
    places_written (named_fields_of s c.args.word.now) (named_field_of s c.args.word.now) (λ i. refl) (one_named_field s c.args.word.now) c.args.fields.now c.loop-i.i _ _ (omega (arith, c.loop-i-test.false)) c.loop-i.invariant
