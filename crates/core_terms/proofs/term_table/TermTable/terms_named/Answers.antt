use Rattle.std.proofs.Common.{map, subst, ap, ◌∙◌}
use Rattle.std.proofs.lemmas.Result.{IfOk-weaker, on_ok_weaker}
use Rattle.core_syntax.specs.SyntaxViews.{name_view, pattern_view, position}
use Rattle.core_syntax.specs.Positions.{NotesAt, pattern_positions}
use Rattle.core_syntax.proofs.Positioned.{notes_among}
use Rattle.core_terms.proofs.NotedPositions.{named_among}
use Rattle.core_terms.specs.Signing.{NotesIfWrong}
use Rattle.core_terms.specs.Templating.{AreFound, HaveUnknown}
use Rattle.core_terms.proofs.TemplateNames.{named_terms}
use Rattle.core_terms.proofs.term_table.TermTable.terms_named.Goals as goal

pub returns-clause-notes : goal.returns-clause-notes
returns-clause-notes c =
    let names = ap (map (λ n. name_view n.1.now)) c.deref.ensures.value ∙ named_terms c.terms.new.out.items c.new-named.result.items (pattern_view c.args.extractor.now.template) c.in_ok-terms.ensures.all c.new-named.ensures.items in
    IfOk-weaker c.find_terms.result _ _ (λ v n.
    subst (λ ns. NotesIfWrong c.args.errors.now.items c.find_terms.new.errors.items (AreFound c.args.tyenv.now c.args.self.now ns (map (λ t. t.0) v.items)) (HaveUnknown c.args.tyenv.now c.args.self.now ns)) names n) c.find_terms.ensures.notes

pub returns-clause-places : goal.returns-clause-places
returns-clause-places c =
    let es = c.args.errors.now.items in
    let es' = c.find_terms.new.errors.items in
    on_ok_weaker c.find_terms.result (λ r.
    notes_among _ (pattern_positions (pattern_view c.args.extractor.now.template)) es es' (named_among c.terms.new.out.items c.new-named.result.items (pattern_view c.args.extractor.now.template) c.in_ok-terms.ensures.all c.new-named.ensures.items)
    (subst (λ ns. NotesAt (map (λ n. position n.0) ns) es es') c.deref.ensures.value r)) c.find_terms.ensures.places
