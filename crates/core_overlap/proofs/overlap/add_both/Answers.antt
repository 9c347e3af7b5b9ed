use Rattle.std.proofs.Common.{not, sym, ap, ◌∙◌}
use Rattle.std.proofs.lemmas.Bool.{false≢true}
use Rattle.core_overlap.specs.Graphs.{neighbours_at}
use Rattle.core_overlap.proofs.OverlapCounts.{both_listed}
use Rattle.core_overlap.proofs.overlap.add_both.Goals as goal

pub returns-in_ok-add_other-2 : goal.returns-in_ok-add_other-2
returns-in_ok-add_other-2 c = λ q.
    both_listed (neighbours_at c.args.others.now q) (neighbours_at c.add_other.new.others q) (neighbours_at c.add_other-then-ne.new.others q) c.args.first c.args.second q
    (λ t. false≢true (sym (c.ne.ensures ∙ ap not t) ∙ c.if-ne.true)) (c.in_ok-add_other.ensures q) (c.in_ok-add_other-2.ensures q)
