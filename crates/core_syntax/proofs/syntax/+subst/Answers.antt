use Rattle.std.proofs.Common.{◌≡◌, Some, None, option_map, map, refl, rules, sym, ap, ◌∙◌, arith}
use Rattle.std.specs.Prelude.{slice_get}
use Rattle.std.proofs.lemmas.Grind.{common_steps}
use Rattle.std.proofs.lemmas.Option.{slice_get-map, slice_get-get_or, slice_get_past}
use Rattle.core_syntax.specs.SyntaxViews.{pattern_view}
use Rattle.model.specs.lists.Expansions.{substituted, all_substituted}
use Rattle.core_syntax.proofs.PatternViews.{row_patterns-hidden, step_after, none_after, end_after}
use Rattle.core_syntax.proofs.syntax.+subst.Goals as goal

pub Pattern::subst_macro_args-returns-in_default-3 : goal.Pattern::subst_macro_args-returns-in_default-3
Pattern::subst_macro_args-returns-in_default-3 t c =
    let a = c.in_ok-args-in-Term.ensures in
    rw (c.in-Term.is, row_patterns-hidden c.in-Term.args, ← c.deref-in-Term.ensures.value, ← a, c.in_default-3.is) refl

pub Pattern::subst_macro_args-returns-in_ok-clone-in-Some : goal.Pattern::subst_macro_args-returns-in_ok-clone-in-Some
Pattern::subst_macro_args-returns-in_ok-clone-in-Some t c =
    let e : slice_get c.args.macro_args.now c.in-MacroArg.index ≡ Some c.in-Some.p.now = grind (arith, common_steps, slice_get-get_or) in
    rw (c.in-MacroArg.is, slice_get-map, e, c.in_ok-clone-in-Some.ensures.cases) refl

pub Pattern::subst_macro_args-returns-in-None : goal.Pattern::subst_macro_args-returns-in-None
Pattern::subst_macro_args-returns-in-None t c =
    let e : slice_get c.args.macro_args.now c.in-MacroArg.index ≡ None = grind (arith, common_steps, slice_get_past) in
    rw (c.in-MacroArg.is, slice_get-map, e) refl

pub Pattern::subst_macro_args-returns-in_ok-clone-in-Term : goal.Pattern::subst_macro_args-returns-in_ok-clone-in-Term
Pattern::subst_macro_args-returns-in_ok-clone-in-Term t c =
    let a = c.in_ok-args-in-Term.ensures in
    rw (c.in-Term.is, row_patterns-hidden c.in-Term.args, row_patterns-hidden c.in-Some-3.args, c.in_ok-clone-in-Term.ensures.cases, ← c.deref-in-Term.ensures.value, ← a, c.in-Some-3.is) refl

pub subst_each-returns-in_default : goal.subst_each-returns-in_default
subst_each-returns-in_default t c =
    let given = map pattern_view c.args.macro_args.now in
    let e : None ≡ substituted given (pattern_view c.part-item.result) = sym (ap (λ o. option_map pattern_view o) c.in_default.is) ∙ c.in_ok-q.ensures in
    none_after (all_substituted given) (substituted given) refl (λ q qs. refl) c.loop-part.out.items c.args.parts.now c.part-item.result c.loop-part.part-index (search rules) c.part-item.is e c.loop-part.invariant

pub subst_each-loop-part-preserved : goal.subst_each-loop-part-preserved
subst_each-loop-part-preserved t c =
    let given = map pattern_view c.args.macro_args.now in
    let e : Some (pattern_view c.in-Some.q) ≡ substituted given (pattern_view c.part-item.result) = sym (ap (λ o. option_map pattern_view o) c.in-Some.is) ∙ c.in_ok-q.ensures in
    step_after (all_substituted given) (substituted given) refl (λ q qs. refl) c.loop-part.out.items c.push.new.self.items c.args.parts.now c.in-Some.q c.part-item.result c.loop-part.part-index (search rules) c.part-item.is e c.in_ok-push.ensures.items c.loop-part.invariant

pub subst_each-returns : goal.subst_each-returns
subst_each-returns t c =
    let given = map pattern_view c.args.macro_args.now in
    end_after (all_substituted given) (substituted given) refl (λ q qs. refl) c.loop-part.out.items c.args.parts.now c.loop-part.part-index (search rules) c.loop-part.invariant
