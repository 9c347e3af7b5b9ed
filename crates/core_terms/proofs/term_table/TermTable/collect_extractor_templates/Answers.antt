use Rattle.std.proofs.Common.{length, subst}
use Rattle.std.proofs.lemmas.Result.{on_ok_weaker}
use Rattle.core_syntax.specs.SyntaxViews.{definition_views}
use Rattle.core_terms.specs.Signing.{NotesIfWrong}
use Rattle.core_terms.specs.Recursion.{EndsBelow, NotesReturn}
use Rattle.core_terms.proofs.NotedPositions.{recursion_noted}
use Rattle.core_terms.proofs.Recursion.{searched}
use Rattle.core_terms.proofs.term_table.TermTable.collect_extractor_templates.Goals as goal

pub returns-clause-reads : goal.returns-clause-reads
returns-clause-reads g c =
    let table = c.read_templates.new.self in
    let es = c.read_templates.new.errors.items in
    let es' = c.check_recursion.new.errors.items in
    on_ok_weaker c.check_recursion.result (λ n.
    searched g.read c.requires.0 (definition_views c.args.defs.now) c.read_templates.new.callees.items c.args.tyenv.now table es es' c.in_ok-read_templates.field-0
    (subst (λ l. NotesIfWrong es es' (EndsBelow table l (length l)) (NotesReturn table l es es')) c.deref.ensures.value n) c.in_ok-read_templates.ensures.reads) c.check_recursion.ensures.notes

pub returns-clause-places : goal.returns-clause-places
returns-clause-places g c =
    let table = c.read_templates.new.self in
    let es = c.read_templates.new.errors.items in
    on_ok_weaker c.check_recursion.result (λ r. recursion_noted _ table _ es c.check_recursion.new.errors.items c.in_ok-read_templates.ensures.places c.in_ok-read_templates.ensures.placed r) c.check_recursion.ensures.places

pub returns-clause-placed : goal.returns-clause-placed
returns-clause-placed g c = on_ok_weaker c.check_recursion.result (λ _. c.in_ok-read_templates.ensures.placed) c.check_recursion.ensures.places
