use Rattle.std.proofs.Common.{Some, subst, sym}
use Rattle.app_command.specs.Codes.{IsCodeOf}
use Rattle.app_calls.specs.Told.{HandsOver}
use Rattle.app_calls.specs.declared.statuses.TheConstants.{DONE, NO_CODE}
use Rattle.app_command.proofs.CodeMade.{wrong_of_none}
use Rattle.app_calls.proofs.Telling.{told_of_code, told_of_names, told_of_wrong}
use Rattle.app_calls.proofs.answers.coded.Goals as goal

pub returns-in-Text-clause-told : goal.returns-in-Text-clause-told
returns-in-Text-clause-told c code =
    let made = subst (IsCodeOf c.args.asked.expand c.args.reading.now c.args.files.now c.args.options.now) c.in-Ok-Some.field-0-is c.in-Ok-Some.ensures in
    told_of_code c.args.asked c.args.reading.now c.args.out.now c.hand_over.new.out c.hand_over.new.sizes c.hand_over.result
    _ c.in-Text.text code (c.args.files.now, (c.args.options.now, made)) c.in-Text.is
    (subst (λ t. HandsOver c.args.out.now c.hand_over.new.out c.hand_over.new.sizes DONE t c.hand_over.result) c.deref.ensures (record {
      needed = c.hand_over.ensures.needed;
      room = c.hand_over.ensures.room;
      written = c.hand_over.ensures.written;
      short = c.hand_over.ensures.short;
    }))

pub returns-in-Names-clause-told : goal.returns-in-Names-clause-told
returns-in-Names-clause-told c code =
    let made = subst (IsCodeOf c.args.asked.expand c.args.reading.now c.args.files.now c.args.options.now) c.in-Ok-Some.field-0-is c.in-Ok-Some.ensures in
    told_of_names c.args.asked c.args.reading.now c.args.out.now c.hand_over-in-Names.new.out c.hand_over-in-Names.new.sizes
    c.hand_over-in-Names.result _ c.in-Names.why code (c.args.files.now, (c.args.options.now, made)) c.in-Names.is
    (subst (λ t. HandsOver c.args.out.now c.hand_over-in-Names.new.out c.hand_over-in-Names.new.sizes NO_CODE t c.hand_over-in-Names.result) c.deref-in-Names.ensures (record {
      needed = c.hand_over-in-Names.ensures.needed;
      room = c.hand_over-in-Names.ensures.room;
      written = c.hand_over-in-Names.ensures.written;
      short = c.hand_over-in-Names.ensures.short;
    }))

pub returns-in-Ok-None-clause-told : goal.returns-in-Ok-None-clause-told
returns-in-Ok-None-clause-told c code =
    let made = subst (IsCodeOf c.args.asked.expand c.args.reading.now c.args.files.now c.args.options.now) c.in-Ok-None.field-0-is c.in-Ok-None.ensures in
    told_of_wrong c.args.asked c.args.reading.now c.args.out.now c.said.new.out c.said.new.sizes c.said.result code
    (wrong_of_none c.args.asked.expand c.args.reading.now c.args.files.now c.args.options.now made) c.said.ensures.said
