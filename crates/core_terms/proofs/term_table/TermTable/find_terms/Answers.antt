use Rattle.std.proofs.Common.{rules}
use Rattle.core_syntax.specs.SyntaxViews.{name_view, position}
use Rattle.core_terms.proofs.NotedPositions.{next_place}
use Rattle.core_terms.proofs.TemplateNames.{next_found}
use Rattle.core_terms.proofs.term_table.TermTable.find_terms.Goals as goal

pub loop-name-preserved : goal.loop-name-preserved
loop-name-preserved c =
    let a = c.in_ok-find_named.ensures in (
      a.within,
      next_found (λ n. name_view n.1.now) c.args.tyenv.now c.args.self.now c.args.named.now c.loop-name.name-index c.name-item.result (search rules) c.name-item.is c.args.errors.now.items c.loop-name.errors.items c.find_named.new.errors.items c.loop-name.found.items c.find_named.new.found.items a.notes c.loop-name.invariant.1,
      next_place (λ n. position n.0) c.args.named.now c.loop-name.name-index c.name-item.result (search rules) c.name-item.is _ _ _ a.places c.loop-name.invariant.2,
    )
