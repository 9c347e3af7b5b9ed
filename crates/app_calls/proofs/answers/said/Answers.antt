use Rattle.std.proofs.Common.{inr, subst}
use Rattle.app_calls.specs.Told.{text_of, HandsOver}
use Rattle.app_calls.proofs.answers.said.Goals as goal

pub returns-in-Ok-clause-said : goal.returns-in-Ok-clause-said
returns-in-Ok-clause-said c =
    inr (
      c.in-Ok.answer,
      c.in-Ok.ensures,
      subst (λ s. HandsOver c.args.out.now c.hand_over.new.out c.hand_over.new.sizes s (text_of c.in-Ok.answer) c.hand_over.result) c.status_of.ensures.same
          (subst (λ t. HandsOver c.args.out.now c.hand_over.new.out c.hand_over.new.sizes c.status_of.result t c.hand_over.result) c.text_of.ensures
          (record {
            needed = c.hand_over.ensures.needed;
            room = c.hand_over.ensures.room;
            written = c.hand_over.ensures.written;
            short = c.hand_over.ensures.short;
          })),
    )
