use Rattle.std.proofs.Common.{arith}
use Rattle.cranelift_isle.specs.Envs.{names_of}
use Rattle.cranelift_isle.specs.TypeViews.{type_view}
use Rattle.rust_items.specs.ClaimViews.{claim_views}
use Rattle.rust_items.specs.NamedPrograms.{type_paths}
use Rattle.rust_items.proofs.Grown.{grown_by, grown_all}
use Rattle.rust_items.proofs.paths.push_all_of_types.Goals as goal

pub loop-ty-preserved : goal.loop-ty-preserved
loop-ty-preserved c =
    grown_by type_view c.args.types.now c.loop-ty.ty-index (type_paths (names_of c.args.tyenv.now)) (claim_views c.args.claims.now.items) c.ty-item.result _ _ c.loop-ty-test.true c.ty-item.is c.loop-ty.invariant c.in_ok-push_of_type.ensures

pub returns : goal.returns
returns c = grown_all type_view c.args.types.now c.loop-ty.ty-index (type_paths (names_of c.args.tyenv.now)) (claim_views c.args.claims.now.items) _ (omega (arith, c.loop-ty-test.false)) c.loop-ty.invariant
