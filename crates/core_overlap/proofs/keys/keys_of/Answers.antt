use Rattle.std.proofs.Common.{subst}
use Rattle.core_overlap.specs.Keys.{AreNext}
use Rattle.core_overlap.proofs.keys.keys_of.Goals as goal

pub returns : goal.returns
returns c = record {
  apart = c.in_ok-of_rules.ensures;
  next = subst (λ ks. AreNext ks c.in_ok-next.next.items) c.deref.ensures.value c.in_ok-next.ensures;
}
