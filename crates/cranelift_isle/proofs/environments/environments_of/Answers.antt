use Rattle.std.proofs.Common.{◌≡◌, Err, sym, subst, rules}
use Rattle.core_syntax.specs.Answers.{OnErrors}
use Rattle.core_syntax.specs.SyntaxViews.{definition_views}
use Rattle.laws_typing.proofs.OwnTypes.{own_types_read}
use Rattle.cranelift_isle.specs.LoweringErrors.{AreErrorsOfLowering}
use Rattle.cranelift_isle.proofs.ErrorsOfReading.{types_refused, rules_refused}
use Rattle.cranelift_isle.proofs.environments.environments_of.Goals as goal

-- valid types can be read, and the type table is read as them
pub from_ast-requires-2 : goal.from_ast-requires-2
from_ast-requires-2 c = own_types_read _ _ c.in_ok-tyenv.ensures.shown

-- errors of types
pub returns-in_err-tyenv-clause-refused : goal.returns-in_err-tyenv-clause-refused
returns-in_err-tyenv-clause-refused c =
    let defs = definition_views c.args.defs.now in
    let of = c.in_err-tyenv.ensures in
    let e : c.from_residual.result ≡ Err c.in_err-tyenv.field-0.0 = search rules in
    subst (λ r. OnErrors r (AreErrorsOfLowering defs c.args.expand)) (sym e)
    (types_refused defs c.args.expand c.in_err-tyenv.field-0.0 of.refused of.breach of.told of.places)

-- errors of terms and rules
pub returns-in_err-termenv-clause-refused : goal.returns-in_err-termenv-clause-refused
returns-in_err-termenv-clause-refused c =
    let defs = definition_views c.args.defs.now in
    let of = c.in_err-termenv.ensures in
    let e : c.from_residual-in_err-termenv.result ≡ Err c.in_err-termenv.field-0.0 = search rules in
    subst (λ r. OnErrors r (AreErrorsOfLowering defs c.args.expand)) (sym e)
    (rules_refused defs c.args.expand c.in_ok-tyenv.ensures.shown.valid c.in_err-termenv.field-0.0 of.refused of.breach of.told of.named of.first of.places)
