use Rattle.std.proofs.Common.{refl, arith}
use Rattle.rust_items.specs.ItemViews.{items_by}
use Rattle.rust_items.proofs.GrownFields.{unnamed_fields_of, unnamed_field_of, one_unnamed_field}
use Rattle.rust_items.proofs.GrownTexts.{place_written_more, places_written}
use Rattle.rust_items.proofs.types.push_unnamed.Goals as goal

pub loop-i-preserved : goal.loop-i-preserved
loop-i-preserved c =
    let s = items_by c.args.program in
    place_written_more (unnamed_fields_of s c.args.word.now) (unnamed_field_of s c.args.word.now) (λ i. refl) (one_unnamed_field s c.args.word.now) c.args.fields.now c.loop-i.i _ _ _ _ c.loop-i-test.true c.loop-i.invariant c.in_ok-push_unnamed_field.ensures

pub returns : goal.returns
returns c =
    let s = items_by c.args.program in
    places_written (unnamed_fields_of s c.args.word.now) (unnamed_field_of s c.args.word.now) (λ i. refl) (one_unnamed_field s c.args.word.now) c.args.fields.now c.loop-i.i _ _ (omega (arith, c.loop-i-test.false)) c.loop-i.invariant
