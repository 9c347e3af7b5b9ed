use Rattle.std.proofs.Common.{rules, refl, sym, ap, ◌∙◌, [], ◌∷◌, map}
use Rattle.std.proofs.lemmas.List.{append-nil, map-append}
use Rattle.core_syntax.specs.Places.{term_view}
use Rattle.core_syntax.proofs.Beginnings.{when_refused, begins, goes_on, patterns_split}
use Rattle.core_syntax.proofs.PatternViews.{row_patterns-hidden}
use Rattle.core_syntax.proofs.syntax.Pattern.+terms.Goals as goal

pub returns-in_err-push-in-Term-clause-beginning : goal.returns-in_err-push-in-Term-clause-beginning
returns-in_err-push-in-Term-clause-beginning t c =
    when_refused _ c.from_residual.result (begins _ _ _ (ap (map (λ u. term_view u.0 u.1.now)) c.in_err-push-in-Term.ensures.items))

pub loop-arg-init : goal.loop-arg-init
loop-arg-init t c = record {
  noted = term_view c.in-Term.pos c.in-Term.sym ∷ [];
  kept = ap (map (λ u. term_view u.0 u.1.now)) c.in_ok-push-in-Term.ensures.items ∙ map-append (λ u. term_view u.0 u.1.now) c.args.out.now.items _;
  begun = rw (c.in-Term.is, row_patterns-hidden c.in-Term.args, c.deref-arg-items.ensures.value) refl;
}

pub returns-in_err-terms-in-Term-clause-beginning : goal.returns-in_err-terms-in-Term-clause-beginning
returns-in_err-terms-in-Term-clause-beginning t c =
    when_refused _ c.from_residual-in_err-terms-in-Term.result
    (goes_on _ _ _ _ _ _ _ (patterns_split c.deref-arg-items.result.now c.loop-arg.arg-index c.arg-item.result (search rules) c.arg-item.is) c.loop-arg.invariant c.in_err-terms-in-Term.ensures.beginning)

pub loop-subpat-init : goal.loop-subpat-init
loop-subpat-init t c = record {
  noted = [];
  kept = sym (append-nil (map (λ u. term_view u.0 u.1.now) c.args.out.now.items));
  begun = rw (c.in-And.is, row_patterns-hidden c.in-And.subpats, c.deref-subpat-items.ensures.value) refl;
}

pub returns-in_err-terms-in-And-clause-beginning : goal.returns-in_err-terms-in-And-clause-beginning
returns-in_err-terms-in-And-clause-beginning t c =
    when_refused _ c.from_residual-in_err-terms-in-And.result
    (goes_on _ _ _ _ _ _ _ (patterns_split c.deref-subpat-items.result.now c.loop-subpat.subpat-index c.subpat-item.result (search rules) c.subpat-item.is) c.loop-subpat.invariant c.in_err-terms-in-And.ensures.beginning)
