use Rattle.std.proofs.Common.{refl, arith}
use Rattle.cranelift_isle.specs.Envs.{names_of}
use Rattle.cranelift_isle.specs.TypeViews.{type_views}
use Rattle.rust_items.proofs.GrownTexts.{parameters_of, parameter_of, one_parameter, place_written_more, places_written}
use Rattle.rust_items.proofs.program.Program.push_parameters.Goals as goal

pub loop-i-preserved : goal.loop-i-preserved
loop-i-preserved c =
    let names = names_of c.args.self.tyenv.now in
    let types = type_views c.args.self.tyenv.now.types.items in
    place_written_more (parameters_of names types) (parameter_of names types) (λ i. refl) (one_parameter names types) c.args.types.now c.loop-i.i _ _ _ _ c.loop-i-test.true c.loop-i.invariant c.in_ok-push_parameter.ensures

pub returns : goal.returns
returns c =
    let names = names_of c.args.self.tyenv.now in
    let types = type_views c.args.self.tyenv.now.types.items in
    places_written (parameters_of names types) (parameter_of names types) (λ i. refl) (one_parameter names types) c.args.types.now c.loop-i.i _ _ (omega (arith, c.loop-i-test.false)) c.loop-i.invariant
