use Rattle.std.proofs.Common.{true, subst}
use Rattle.spec_asked.specs.Lowered.{AsksLowered}
use Rattle.spec_questions.proofs.RightRules.{asks_facts}
use Rattle.spec_questions.proofs.asking.asked_of.Goals as goal

pub returns-then-condition : goal.returns-then-condition
returns-then-condition c = λ own.
    let lowered = c.args.asker.lowered.now in
    let tables = c.args.asker.tables in
    let term = c.args.asked.term.now in
    let nodes = c.lowered_questions.new.formulas in
    let rule = c.args.asked.rule.now in
    let qs = c.in_ok-lowered_questions.field-0.questions.items in
    let es = c.in_ok-lowered_questions.field-0.excluded.items in
    asks_facts lowered c.args.asker.known.now.signatures.items tables term nodes rule qs es
    (subst (λ l. AsksLowered lowered l tables term nodes rule true qs es) c.deref.ensures.value c.in_ok-lowered_questions.ensures.asked)
