use Rattle.std.proofs.Common.{◌∙◌, ap, sym, rules}
use Rattle.rust_text.specs.TokenViews.{owner_view}
use Rattle.rust_text.specs.Adding.{ahead}
use Rattle.rust_text.proofs.FieldSteps.{unnamed_bindings_done}
use Rattle.rust_text.proofs.notation.Writer.add_unnamed_bindings.Goals as goal

pub returns : goal.returns
returns c = λ p n rest.
    c.in_ok-add_word.ensures p rest
    ∙ (ap (ahead p c.loop-index.out.items) (sym (unnamed_bindings_done p (owner_view c.args.owner) c.loop-index.index rest c.args.fields.now (search rules)))
    ∙ c.loop-index.invariant p n rest)
