use Rattle.std.proofs.Common.{◌∙◌, ap, sym, rules}
use Rattle.model_code.specs.Tokens.{struct_owner}
use Rattle.rust_text.specs.Adding.{ahead}
use Rattle.rust_text.proofs.FieldSteps.{unnamed_values_done}
use Rattle.rust_text.proofs.expressions.add_unnamed_values.Goals as goal

pub returns : goal.returns
returns c = λ p rest.
    c.in_ok-add_word.ensures p rest
    ∙ (ap (ahead p c.loop-index.out.items) (sym (unnamed_values_done p (struct_owner 0) c.loop-index.index rest c.args.values.now (search rules)))
    ∙ c.loop-index.invariant p rest)
