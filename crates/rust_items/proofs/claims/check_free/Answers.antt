use Rattle.std.proofs.Common.{sym, ap, ◌∙◌}
use Rattle.std.specs.Prelude.{find}
use Rattle.rust_items.specs.Claims.{Claim, taken_text}
use Rattle.rust_items.specs.ClaimViews.{claim_view, claim_views, is_own}
use Rattle.rust_items.proofs.claims.check_free.Goals as goal

pub returns-in_ok-taken_text-in-Some-clause-taken : goal.returns-in_ok-taken_text-in-Some-clause-taken
returns-in_ok-taken_text-in-Some-clause-taken c = (
  claim_view c.in-Some.claim.now,
  sym (c.in-Some.ensures ∙ ap (λ cs. find (λ (x : Claim). is_own c.args.kind.now.own x.written) (claim_views cs)) c.deref.ensures.value),
  c.in_ok-taken_text-in-Some.ensures ∙ ap (taken_text c.args.kind.now.one.now) c.as_str.ensures.value,
)
