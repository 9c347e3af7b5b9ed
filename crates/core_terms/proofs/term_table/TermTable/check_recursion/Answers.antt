use Rattle.std.proofs.Common.{◌≡◌, length, subst, arith}
use Rattle.core_syntax.proofs.Positioned.{notes_both}
use Rattle.core_terms.specs.Signing.{NotesIfWrong}
use Rattle.core_terms.specs.Recursion.{EndsBelow, NotesReturn}
use Rattle.core_terms.proofs.Recursion.{next_root_ends}
use Rattle.core_terms.proofs.term_table.TermTable.check_recursion.Goals as goal

pub loop-id-preserved : goal.loop-id-preserved
loop-id-preserved c =
    let a = c.in_ok-check_root.ensures in (
      a.findings,
      next_root_ends c.args.self.now c.args.callees.now c.loop-id.id c.args.errors.now.items c.loop-id.errors.items c.check_root.new.errors.items a.notes c.loop-id.invariant.1,
      notes_both _ _ _ _ c.loop-id.invariant.2 a.places,
    )

pub returns-clause-notes : goal.returns-clause-notes
returns-clause-notes c =
    let cs = c.args.callees.now in
    let all : c.loop-id.id ≡ length cs = omega (arith, c.loop-id-test.false, c.loop-id.auto.id-end) in
    subst (λ n. NotesIfWrong c.args.errors.now.items c.loop-id.errors.items (EndsBelow c.args.self.now cs n) (NotesReturn c.args.self.now cs c.args.errors.now.items c.loop-id.errors.items)) all c.loop-id.invariant.1
