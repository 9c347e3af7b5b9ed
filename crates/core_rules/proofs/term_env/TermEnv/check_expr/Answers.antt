use Rattle.std.proofs.Common.{◌≡◌, ◌++◌, OnOk, map, ap, subst, ◌∙◌}
use Rattle.core_syntax.specs.Expressions.{terms_of_expr}
use Rattle.core_syntax.specs.Places.{term_view}
use Rattle.core_syntax.specs.SyntaxViews.{expr_view, position}
use Rattle.core_rules.specs.Constructors.{AreFoundMade}
use Rattle.core_typed.specs.Elaborating.{Checks}
use Rattle.core_syntax.specs.Positions.{NotesAt, expr_positions}
use Rattle.core_syntax.proofs.Positioned.{notes_among}
use Rattle.core_rules.proofs.CheckedUses.{on_then}
use Rattle.core_rules.proofs.PartPlaces.{found_placed}
use Rattle.core_rules.proofs.term_env.TermEnv.check_expr.Goals as goal

pub returns-clause-checks : goal.returns-clause-checks
returns-clause-checks c =
    let uses : map (λ t. term_view t.0 t.1.now) c.deref.result.now ≡ terms_of_expr (expr_view c.args.expr.now) =
    ap (map (λ t. term_view t.0 t.1.now)) c.deref.ensures.value ∙ c.in_ok-terms.ensures.all ∙ ap (λ us. map (λ t. term_view t.0 t.1.now) us ++ terms_of_expr (expr_view c.args.expr.now)) c.new-uses.ensures.items in
    subst (λ us. OnOk c.check_uses.result (Checks c.args.errors.now.items c.check_uses.new.errors.items (AreFoundMade c.args.self.now c.args.tyenv.now us))) uses c.check_uses.ensures.checks

pub returns-clause-places : goal.returns-clause-places
returns-clause-places c =
    let uses : map (λ t. term_view t.0 t.1.now) c.deref.result.now ≡ terms_of_expr (expr_view c.args.expr.now) =
    ap (map (λ t. term_view t.0 t.1.now)) c.deref.ensures.value ∙ c.in_ok-terms.ensures.all ∙ ap (λ us. map (λ t. term_view t.0 t.1.now) us ++ terms_of_expr (expr_view c.args.expr.now)) c.new-uses.ensures.items in
    let all = expr_positions (expr_view c.args.expr.now) in
    let here = map (λ t. position t.0) c.deref.result.now in
    on_then c.check_uses.result (NotesAt here c.args.errors.now.items c.check_uses.new.errors.items) (NotesAt all c.args.errors.now.items c.check_uses.new.errors.items)
    (notes_among here all c.args.errors.now.items c.check_uses.new.errors.items (found_placed (λ t. term_view t.0 t.1.now) c.deref.result.now (expr_view c.args.expr.now) uses)) c.check_uses.ensures.places
