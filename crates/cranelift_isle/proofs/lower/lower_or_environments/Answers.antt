use Rattle.std.proofs.Common.{◌≡◌, Err, sym, ap, ◌∙◌, subst, rules}
use Rattle.std.specs.Prelude.{Some, None}
use Rattle.core_syntax.specs.Answers.{Answers}
use Rattle.core_syntax.specs.SyntaxViews.{definition_views}
use Rattle.cranelift_isle.specs.Lowerings.{lowered_views, AreAccepted, IsLowered}
use Rattle.cranelift_isle.specs.Refusing.{as_lower, refused_by, ComesWithErrors}
use Rattle.cranelift_isle.proofs.ErrorsOfReading.{handed_over}
use Rattle.cranelift_isle.proofs.RefusedAnswers.{fault_alone, unread, hands_nothing, hands_over}
use Rattle.cranelift_isle.proofs.LoweredAnswers.{were_read, of_elaborated, accepted, built_for_some, answers, refused_by_check, errors_of_check}
use Rattle.cranelift_isle.proofs.lower.lower_or_environments.Goals as goal

-- the environment is that of the definitions
pub check-requires : goal.check-requires
check-requires c = record { elaborated = of_elaborated (were_read (definition_views c.args.defs.now) c.args.expand c.in_ok-environments.environments.termenv _ c.in_ok-environments.ensures.answers.0.0 c.in_ok-environments.ensures.answers.1) }

pub trees_of-requires : goal.trees_of-requires
trees_of-requires c =
    let read = were_read (definition_views c.args.defs.now) c.args.expand c.in_ok-environments.environments.termenv _ c.in_ok-environments.ensures.answers.0.0 c.in_ok-environments.ensures.answers.1 in
    record { built = built_for_some read c.in-Ok.sets c.in-Ok.ensures.checked }

pub returns-clause-accepted : goal.returns-clause-accepted
returns-clause-accepted c =
    let read = were_read (definition_views c.args.defs.now) c.args.expand c.in_ok-environments.environments.termenv _ c.in_ok-environments.ensures.answers.0.0 c.in_ok-environments.ensures.answers.1 in
    let terms = c.in_ok-terms in (
      accepted read c.in-Ok.sets c.in-Ok.ensures.checked,
      answers read c.in-Ok.sets c.in-Ok.ensures.checked c.best_trees_keep_the_headline.ensures (lowered_views terms.terms.items) terms.ensures.same terms.ensures.best,
    )

-- errors of reading types and rules are handed over
pub returns-in_err-environments-clause-accepted : goal.returns-in_err-environments-clause-accepted
returns-in_err-environments-clause-accepted c =
    let defs = definition_views c.args.defs.now in
    let fault = c.in_err-environments.field-0.0 in
    let e : c.from_residual.result ≡ Err (refused_by fault None) = search rules in
    subst (λ r. Answers r (AreAccepted defs c.args.expand) (IsLowered defs c.args.expand)) (sym (ap as_lower e ∙ fault_alone fault None))
    (unread defs c.args.expand _ fault c.in_err-environments.ensures.answers)

pub returns-in_err-environments-clause-refused : goal.returns-in_err-environments-clause-refused
returns-in_err-environments-clause-refused c =
    let fault = c.in_err-environments.field-0.0 in
    let e : c.from_residual.result ≡ Err (refused_by fault None) = search rules in
    handed_over (definition_views c.args.defs.now) c.args.expand fault (as_lower c.from_residual.result) (ap as_lower e ∙ fault_alone fault None) c.in_err-environments.ensures.refused

pub returns-in_err-environments-clause-environments : goal.returns-in_err-environments-clause-environments
returns-in_err-environments-clause-environments c =
    let defs = definition_views c.args.defs.now in
    let fault = c.in_err-environments.field-0.0 in
    let e : c.from_residual.result ≡ Err (refused_by fault None) = search rules in
    subst (ComesWithErrors defs c.args.expand) (sym e) (hands_nothing defs c.args.expand _ fault c.in_err-environments.ensures.answers)

-- errors of the check
pub returns-in-Err-clause-accepted : goal.returns-in-Err-clause-accepted
returns-in-Err-clause-accepted c =
    let read = were_read (definition_views c.args.defs.now) c.args.expand c.in_ok-environments.environments.termenv _ c.in_ok-environments.ensures.answers.0.0 c.in_ok-environments.ensures.answers.1 in
    refused_by_check read (as_lower (Err c.refused_with.result)) c.in-Err.fault (ap (λ r. as_lower (Err r)) c.refused_with.ensures ∙ fault_alone c.in-Err.fault _) c.in-Err.ensures.checked

pub returns-in-Err-clause-refused : goal.returns-in-Err-clause-refused
returns-in-Err-clause-refused c =
    let read = were_read (definition_views c.args.defs.now) c.args.expand c.in_ok-environments.environments.termenv _ c.in_ok-environments.ensures.answers.0.0 c.in_ok-environments.ensures.answers.1 in
    errors_of_check read (as_lower (Err c.refused_with.result)) c.in-Err.fault (ap (λ r. as_lower (Err r)) c.refused_with.ensures ∙ fault_alone c.in-Err.fault _) c.in-Err.ensures.checked c.in-Err.ensures.places c.in-Err.ensures.single

pub returns-in-Err-clause-environments : goal.returns-in-Err-clause-environments
returns-in-Err-clause-environments c =
    let defs = definition_views c.args.defs.now in
    subst (λ r. ComesWithErrors defs c.args.expand (Err r)) (sym c.refused_with.ensures)
    (hands_over defs c.args.expand c.in-Err.fault c.in_ok-environments.environments c.in_ok-environments.ensures.answers.0 c.in_ok-environments.ensures.answers.1)
