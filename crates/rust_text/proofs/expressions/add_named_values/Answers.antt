use Rattle.std.proofs.Common.{◌∙◌, ap, sym, rules}
use Rattle.rust_text.specs.TokenViews.{owner_view}
use Rattle.rust_text.specs.Adding.{ahead}
use Rattle.rust_text.proofs.FieldSteps.{named_values_done}
use Rattle.rust_text.proofs.expressions.add_named_values.Goals as goal

pub returns : goal.returns
returns c = λ p rest.
    c.in_ok-add_word.ensures p rest
    ∙ (c.in_ok-add.ensures p _
    ∙ (ap (ahead p c.loop-index.out.items) (sym (named_values_done p (owner_view c.args.owner) c.loop-index.index rest c.args.values.now (search rules)))
    ∙ c.loop-index.invariant p rest))
