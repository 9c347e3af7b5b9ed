use Rattle.core_overlap.proofs.Chains.{go_alike, go_bare}
use Rattle.core_overlap.proofs.overlap.Ahead.go_on.Goals as goal

pub returns-then-self : goal.returns-then-self
returns-then-self c = λ keys key from n h. go_alike keys c.args.next.now key from c.args.self.now c.requires n h c.if-self.true

pub returns-else-self : goal.returns-else-self
returns-else-self c = λ keys key from n h. go_bare keys c.args.next.now key from c.args.self.now c.requires n h c.if-self.false
