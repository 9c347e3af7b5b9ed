use Rattle.std.proofs.Common.{All, length, sym, ap, subst, ◌∙◌, arith, eqb-true, eq-eqb}
use Rattle.std.proofs.lemmas.Bool.{false≢true}
use Rattle.std.proofs.lemmas.List.{nil_from_length}
use Rattle.std.proofs.lemmas.List.Elements.{All-append}
use Rattle.model.specs.rules.Program.{is_multi}
use Rattle.model.specs.sites.SetRules.{reports_of_sets}
use Rattle.core_builder.specs.AddedRules.{report_views}
use Rattle.core_syntax.specs.Positions.{HasSingleSpans}
use Rattle.cranelift_isle.specs.BuiltSets.{term_set_views}
use Rattle.cranelift_isle.specs.Checks.{env_program}
use Rattle.cranelift_isle.proofs.CheckedSets.{found_names_rules, nothing_found, something_found}
use Rattle.cranelift_isle.proofs.overlap.check_built.Goals as goal

pub returns-then-is_empty-clause-checked : goal.returns-then-is_empty-clause-checked
returns-then-is_empty-clause-checked c = λ p reports built.
    let n = c.append.new.self.ok.0 in
    let e = eqb-true _ 0 (sym c.is_empty.ensures ∙ c.if-is_empty.true) in
    nothing_found c.args.termenv.now p c.args.sets.items c.args.errors.items c.in_ok-found.found.items c.append.new.self.items reports built
    (c.in_ok-found.ensures.reports ∙ ap (λ s. report_views (reports_of_sets (is_multi (env_program c.args.termenv.now)) (term_set_views s))) c.deref.ensures.value)
    c.in_ok-append.ensures.items (nil_from_length c.append.new.self.items (omega (arith, n, e)))

pub returns-else-is_empty : goal.returns-else-is_empty
returns-else-is_empty c = record {
  checked = λ p reports built.
      let n = c.append.new.self.ok.0 in
      something_found c.args.termenv.now p c.args.sets.items c.args.errors.items c.in_ok-found.found.items c.append.new.self.items reports built
      (c.in_ok-found.ensures.reports ∙ ap (λ s. report_views (reports_of_sets (is_multi (env_program c.args.termenv.now)) (term_set_views s))) c.deref.ensures.value)
      c.in_ok-append.ensures.items
      (λ e. let l = ap length e in false≢true (sym c.if-is_empty.false ∙ c.is_empty.ensures ∙ eq-eqb _ 0 (omega (arith, n, l))));
  single = λ h. subst (All HasSingleSpans) (sym c.in_ok-append.ensures.items) (All-append HasSingleSpans c.args.errors.items c.in_ok-found.found.items h c.in_ok-found.ensures.single);
  places = λ p reports built.
      found_names_rules c.args.termenv.now p c.args.sets.items c.args.errors.items c.in_ok-found.found.items c.append.new.self.items reports built
      (c.in_ok-found.ensures.reports ∙ ap (λ s. report_views (reports_of_sets (is_multi (env_program c.args.termenv.now)) (term_set_views s))) c.deref.ensures.value)
      c.in_ok-append.ensures.items;
}
