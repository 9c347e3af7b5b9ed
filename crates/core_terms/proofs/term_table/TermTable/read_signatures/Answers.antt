use Rattle.std.proofs.Common.{ap}
use Rattle.core_syntax.specs.Positions.{positions_of}
use Rattle.core_syntax.specs.SyntaxViews.{definition_views}
use Rattle.core_types.specs.TypePositions.{types_positions}
use Rattle.core_terms.proofs.NotedPositions.{made_so_far}
use Rattle.core_terms.proofs.ErrorSteps.{both_ok}
use Rattle.core_terms.proofs.GroupSteps.{made_after}
use Rattle.core_terms.proofs.term_table.TermTable.read_signatures.Goals as goal

pub returns-clause-reads : goal.returns-clause-reads
returns-clause-reads g c =
    both_ok c.add_made_terms.result _ _ _ (λ w a.
    made_after g.read c.requires.0 (definition_views c.args.defs.now) c.read_declarations.new.tyenv c.read_declarations.new.self c.add_made_terms.new.self c.read_declarations.new.errors.items c.add_made_terms.new.errors.items w a c.in_ok-read_declarations.ensures.reads) c.add_made_terms.ensures.within c.add_made_terms.ensures.adds

pub returns-clause-places : goal.returns-clause-places
returns-clause-places g c =
    let ds = positions_of (definition_views c.args.defs.now) in
    let a = c.in_ok-read_declarations.ensures in
    both_ok c.add_made_terms.result _ _ _ (λ n p. (made_so_far ds (types_positions g.read.known.types) _ c.args.self.now c.read_declarations.new.self c.add_made_terms.new.self _ _ _ (ap types_positions c.read_declarations.ensures.left.types.types) a.places a.placed n p).noted) c.add_made_terms.ensures.places c.add_made_terms.ensures.placed

pub returns-clause-placed : goal.returns-clause-placed
returns-clause-placed g c =
    let ds = positions_of (definition_views c.args.defs.now) in
    let a = c.in_ok-read_declarations.ensures in
    both_ok c.add_made_terms.result _ _ _ (λ n p. (made_so_far ds (types_positions g.read.known.types) _ c.args.self.now c.read_declarations.new.self c.add_made_terms.new.self _ _ _ (ap types_positions c.read_declarations.ensures.left.types.types) a.places a.placed n p).kept) c.add_made_terms.ensures.places c.add_made_terms.ensures.placed
