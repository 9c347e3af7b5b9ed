use Rattle.std.proofs.Common.{◌≡◌, IfOk, subst, vec_len, arith}
use Rattle.core_typed.proofs.PatternRunSteps.{types_count}
use Rattle.core_typed.proofs.pattern_visits.part_ids.Goals as goal

pub returns-in_ok-output_tys-in-Decl-default-default-Some-clause-count :
    goal.returns-in_ok-output_tys-in-Decl-default-default-Some-clause-count
returns-in_ok-output_tys-in-Decl-default-default-Some-clause-count g c =
    let tys = c.in_ok-output_tys-in-Decl-default-default-Some.output_tys in
    subst (λ n. IfOk c.add_extract.result (λ ids. vec_len ids ≡ n))
    (let n = types_count tys.items c.args.parts.now c.in_ok-output_tys-in-Decl-default-default-Some.ensures in omega (arith, tys.ok.0, n))
    c.add_extract.ensures.count
