use Rattle.std.proofs.Common.{◌∙◌, not, refl, sym, ap}
use Rattle.model.specs.rules.Program.{is_multi}
use Rattle.rust_code.specs.SeenTypes.{is_sole_with_parts, program_in, seen_types}
use Rattle.rust_code.proofs.SiteHolds.{many_answers, one_answer}
use Rattle.rust_code.proofs.held.is_held_call.Goals as goal

pub returns-then-not-is_multi : goal.returns-then-not-is_multi
returns-then-not-is_multi c = λ constants rules are.
    let tables = c.args.tables.now in
    let p = program_in tables constants rules in
    one_answer (is_multi p c.args.term.0) (is_sole_with_parts tables.tyenv.now (seen_types tables.terms.now c.args.types)) c.is_one_composed.result (sym (c.is_multi.ensures p refl) ∙ c.if-not-is_multi.true) c.is_one_composed.ensures

pub returns-else-not-is_multi : goal.returns-else-not-is_multi
returns-else-not-is_multi c = λ constants rules are.
    let tables = c.args.tables.now in
    let p = program_in tables constants rules in
    ap not (c.is_multi.ensures p refl)
    ∙ many_answers (is_multi p c.args.term.0) (is_sole_with_parts tables.tyenv.now (seen_types tables.terms.now c.args.types)) (sym (c.is_multi.ensures p refl) ∙ c.if-not-is_multi.false)
