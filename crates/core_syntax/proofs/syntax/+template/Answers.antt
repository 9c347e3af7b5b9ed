use Rattle.std.proofs.Common.{refl, rules, map, string_bytes}
use Rattle.model.specs.lists.TermTable.{template, templates}
use Rattle.core_syntax.proofs.PatternViews.{row_patterns-hidden, step_before, end_before}
use Rattle.core_syntax.proofs.syntax.+template.Goals as goal

pub Pattern::make_macro_template-returns-in_ok-templates-in-Term : goal.Pattern::make_macro_template-returns-in_ok-templates-in-Term
Pattern::make_macro_template-returns-in_ok-templates-in-Term t c =
    rw (c.in-Term.is, row_patterns-hidden c.in_ok-templates-in-Term.field-0, row_patterns-hidden c.in-Term.parts, c.in_ok-clone-in-Term.ensures.cases, c.in_ok-templates-in-Term.ensures, c.deref-in-Term.ensures.value) refl

pub templates-loop-part-preserved : goal.templates-loop-part-preserved
templates-loop-part-preserved t c =
    let names = map (λ a. string_bytes a.0) c.args.args.now in
    step_before (templates names) (template names) refl (λ q qs. refl) c.loop-part.out.items c.push.new.self.items c.args.parts.now c.in_ok-make_macro_template.field-0 c.part-item.result c.loop-part.part-index (search rules) c.part-item.is c.in_ok-make_macro_template.ensures c.in_ok-push.ensures.items c.loop-part.invariant

pub templates-returns : goal.templates-returns
templates-returns t c =
    let names = map (λ a. string_bytes a.0) c.args.args.now in
    end_before (templates names) (template names) refl (λ q qs. refl) c.loop-part.out.items c.args.parts.now c.loop-part.part-index (search rules) c.loop-part.invariant
