use Rattle.std.proofs.Common.{cond, nat_eq, ap, ◌∙◌}
use Rattle.core_typed.specs.ExprViews.{expr_view}
use Rattle.core_rules.specs.Lets.{before_all}
use Rattle.core_rules.proofs.LetScopes.{hide_last}
use Rattle.core_rules.proofs.typing.lets.bind_def.Goals as goal

pub returns : goal.returns
returns c = record {
  id = c.in_ok-id.ensures.id;
  view = ap (λ x. (c.in_ok-id.id.0, c.args.ty.0, expr_view x)) c.in_ok-val.ensures.ok;
  binds = c.in_ok-id.ensures.binds;
  hides = λ k now. ap (λ hs. before_all hs k now) c.in_ok-push.ensures.items ∙ hide_last c.args.hidden.now.items _ k now ∙ ap (λ o. before_all c.args.hidden.now.items k (cond (nat_eq c.args.name.0 k) o now)) c.lookup.ensures;
}
