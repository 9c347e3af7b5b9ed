use Rattle.std.proofs.Common.{rules, refl, sym, ap, ◌∙◌, [], ◌∷◌, map}
use Rattle.std.proofs.lemmas.List.{append-nil, map-append}
use Rattle.core_syntax.specs.Expressions.{terms_of_expr}
use Rattle.core_syntax.specs.Places.{term_view}
use Rattle.core_syntax.specs.SyntaxViews.{expr_view}
use Rattle.core_syntax.proofs.Beginnings.{when_refused, begins, goes_on, exprs_split, lets_split, lets_end, while_refused}
use Rattle.core_syntax.proofs.ExprViews.{row_exprs-hidden, row_lets-hidden}
use Rattle.core_syntax.proofs.syntax.Expr.+terms.Goals as goal

pub returns-in_err-push-in-Term-clause-beginning : goal.returns-in_err-push-in-Term-clause-beginning
returns-in_err-push-in-Term-clause-beginning t c =
    when_refused _ c.from_residual.result (begins _ _ _ (ap (map (λ u. term_view u.0 u.1.now)) c.in_err-push-in-Term.ensures.items))

pub loop-arg-init : goal.loop-arg-init
loop-arg-init t c = record {
  noted = term_view c.in-Term.pos c.in-Term.sym ∷ [];
  kept = ap (map (λ u. term_view u.0 u.1.now)) c.in_ok-push-in-Term.ensures.items ∙ map-append (λ u. term_view u.0 u.1.now) c.args.out.now.items _;
  begun = rw (c.in-Term.is, row_exprs-hidden c.in-Term.args, c.deref-arg-items.ensures.value) refl;
}

pub returns-in_err-terms-in-Term-clause-beginning : goal.returns-in_err-terms-in-Term-clause-beginning
returns-in_err-terms-in-Term-clause-beginning t c =
    when_refused _ c.from_residual-in_err-terms-in-Term.result
    (goes_on _ _ _ _ _ _ _ (exprs_split c.deref-arg-items.result.now c.loop-arg.arg-index c.arg-item.result (search rules) c.arg-item.is) c.loop-arg.invariant c.in_err-terms-in-Term.ensures.beginning)

pub loop-def-init : goal.loop-def-init
loop-def-init t c = record {
  noted = [];
  kept = sym (append-nil (map (λ u. term_view u.0 u.1.now) c.args.out.now.items));
  begun = rw (c.in-Let.is, row_lets-hidden c.in-Let.defs, c.deref-def-items.ensures.value) refl;
}

pub returns-in_err-terms-in-Let-clause-beginning : goal.returns-in_err-terms-in-Let-clause-beginning
returns-in_err-terms-in-Let-clause-beginning t c =
    when_refused _ c.from_residual-in_err-terms-in-Let.result
    (goes_on _ _ _ _ _ _ _ (lets_split c.deref-def-items.result.now c.loop-def.def-index c.def-item.result c.deref.result.now (terms_of_expr (expr_view c.in-Let.body.value)) (search rules) c.def-item.is c.deref.ensures) c.loop-def.invariant c.in_err-terms-in-Let.ensures.beginning)

pub returns-after-loop-def-clause-beginning : goal.returns-after-loop-def-clause-beginning
returns-after-loop-def-clause-beginning t c =
    while_refused _ _ _ _ _ c.terms-in-Let.result _
    (lets_end c.deref-def-items.result.now c.loop-def.def-index c.in-Let.body.value c.deref-in-Let.result.now (search rules) c.deref-in-Let.ensures) c.loop-def.invariant c.terms-in-Let.ensures.beginning
