use Rattle.std.proofs.Common.{map, subst, sym}
use Rattle.std.proofs.Math.ListN.{set}
use Rattle.core_terms.specs.Templating.{SetsCallees}
use Rattle.core_terms.proofs.Callees.{sets_callees, reordered}
use Rattle.core_terms.proofs.reading.templates.set_callees.Goals as goal

pub returns : goal.returns
returns c =
    let named = map (λ t. t.0) c.args.named.items in
    subst (λ k. SetsCallees c.args.term.0 named c.args.callees.now.items (set c.args.callees.now.items k c.reverse.new.self)) (sym c.index.ensures)
    (sets_callees c.args.callees.now.items c.args.term.0 c.reverse.new.self named c.requires
    (reordered c.args.named.items _ c.reverse.new.self.items c.sort_unstable.ensures.permutation c.reverse.ensures.permutation))
