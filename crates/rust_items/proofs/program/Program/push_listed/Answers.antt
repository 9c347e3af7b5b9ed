use Rattle.std.proofs.Common.{refl, arith}
use Rattle.cranelift_isle.specs.Envs.{names_of}
use Rattle.cranelift_isle.specs.TypeViews.{type_views}
use Rattle.rust_items.proofs.GrownTexts.{listed_ids, listed_id, one_listed, place_written_more, places_written}
use Rattle.rust_items.proofs.program.Program.push_listed.Goals as goal

pub loop-i-preserved : goal.loop-i-preserved
loop-i-preserved c =
    let names = names_of c.args.self.tyenv.now in
    let types = type_views c.args.self.tyenv.now.types.items in
    place_written_more (listed_ids names types) (listed_id names types) (λ i. refl) (one_listed names types) c.args.types.now c.loop-i.i _ _ _ _ c.loop-i-test.true c.loop-i.invariant c.in_ok-push_at.ensures

pub returns : goal.returns
returns c =
    let names = names_of c.args.self.tyenv.now in
    let types = type_views c.args.self.tyenv.now.types.items in
    places_written (listed_ids names types) (listed_id names types) (λ i. refl) (one_listed names types) c.args.types.now c.loop-i.i _ _ (omega (arith, c.loop-i-test.false)) c.loop-i.invariant
