use Rattle.std.proofs.Common.{drop}
use Rattle.model.specs.rules.CalledTerms.{CallAlone, LetsCallAlone}
use Rattle.core_terms.specs.TermViews.{term_views}
use Rattle.core_typed.specs.ExprViews.{expr_views, expr_parts, let_parts, let_views}
use Rattle.core_rules.specs.Constructors.{IsMadeTerm}
use Rattle.core_rules.proofs.term_env.TermEnv.+calls_made.Given as goal

abbrev pub invariant-all_call_made-loop-expr : goal.invariant-all_call_made-loop-expr
invariant-all_call_made-loop-expr l =
    (CallAlone (IsMadeTerm (term_views l.self.terms.items)) (expr_parts (expr_views (drop l.expr-index l.exprs))) → CallAlone (IsMadeTerm (term_views l.self.terms.items)) (expr_parts (expr_views l.exprs)))
    × (CallAlone (IsMadeTerm (term_views l.self.terms.items)) (expr_parts (expr_views l.exprs)) → CallAlone (IsMadeTerm (term_views l.self.terms.items)) (expr_parts (expr_views (drop l.expr-index l.exprs))))

abbrev pub invariant-lets_call_made-loop-binding : goal.invariant-lets_call_made-loop-binding
invariant-lets_call_made-loop-binding l =
    (LetsCallAlone (IsMadeTerm (term_views l.self.terms.items)) (let_parts (let_views (drop l.binding-index l.bindings))) → LetsCallAlone (IsMadeTerm (term_views l.self.terms.items)) (let_parts (let_views l.bindings)))
    × (LetsCallAlone (IsMadeTerm (term_views l.self.terms.items)) (let_parts (let_views l.bindings)) → LetsCallAlone (IsMadeTerm (term_views l.self.terms.items)) (let_parts (let_views (drop l.binding-index l.bindings))))
