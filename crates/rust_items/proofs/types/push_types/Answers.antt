use Rattle.std.proofs.Common.{arith}
use Rattle.std.specs.Prelude.{string_bytes}
use Rattle.cranelift_isle.specs.TypeViews.{type_view}
use Rattle.rust_items.specs.ItemViews.{items_by}
use Rattle.rust_items.specs.WrittenItems.{declaration_written}
use Rattle.rust_items.proofs.Grown.{grown_in, grown_through}
use Rattle.rust_items.proofs.types.push_types.Goals as goal

pub loop-ty-preserved : goal.loop-ty-preserved
loop-ty-preserved c =
    grown_in type_view c.args.program.tyenv.now.types.items c.deref-ty-items.result.now c.deref-ty-items.ensures.value c.loop-ty.ty-index (declaration_written (items_by c.args.program)) (string_bytes c.args.out.now)
    c.ty-item.result _ _ c.loop-ty-test.true c.ty-item.is c.loop-ty.invariant c.in_ok-push_declaration.ensures

pub returns : goal.returns
returns c =
    grown_through type_view c.args.program.tyenv.now.types.items c.deref-ty-items.result.now c.deref-ty-items.ensures.value c.loop-ty.ty-index (declaration_written (items_by c.args.program)) (string_bytes c.args.out.now)
    _ (omega (arith, c.loop-ty-test.false)) c.loop-ty.invariant
