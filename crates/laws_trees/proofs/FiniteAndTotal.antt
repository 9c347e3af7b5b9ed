-- The headline under finite maps, and by total functions.
use Rattle.std.proofs.Common.{arith}
use Rattle.std.proofs.lemmas.Grind.{common_steps}
use Rattle.model.specs.rules.Meaning.{total}
use Rattle.model.specs.claims.Environments.{types_read}
use Rattle.model.specs.claims.Layers.{own_program}
use Rattle.laws_typing.proofs.WellTypedRules.{elaborated_programs_are_well_typed_lem}
use Rattle.laws_trees.proofs.total.Total.{total_meanings_serve_lem}
use Rattle.laws_trees.specs.FiniteAndTotal.{HeadlineIsOfMaps, LoweredTermsRunByFunctions}
use Rattle.laws_trees.proofs.PatternConstants.{tells_constants}

pub headline_is_of_maps_lem : HeadlineIsOfMaps
headline_is_of_maps_lem p t sites tree = grind (arith, common_steps)

pub lowered_terms_run_by_functions_lem : LoweredTermsRunByFunctions
lowered_terms_run_by_functions_lem defs expand rules l f args accepted lowered well apart typed =
    let p = own_program defs rules in
    let w = elaborated_programs_are_well_typed_lem (types_read defs) defs expand rules accepted.read.elaborated in
    let served = total_meanings_serve_lem p l.term f args w well typed in
    let told = tells_constants p l.term (total f) w apart in
    record {
      chooses = λ single. (let a = lowered.headline.runs single (total f) args typed served told in record { as_chosen = a.0; once = a.1 });
      collects = λ multi results. lowered.collects multi results (total f) args typed served told;
    }
