use Rattle.std.proofs.Common.{◌≡◌, ◌∙◌, option_map, refl, ap, sym, arith}
use Rattle.core_rule_sets.specs.SiteViews.{site_views}
use Rattle.rust_text.specs.Expanded.{first_inside}
use Rattle.core_terms.specs.TermViews.{term_views}
use Rattle.rust_text.proofs.InsideCalls.{found_here, inside_of_terms, inside_of_term, more_terms, none_here, none_left}
use Rattle.rust_text.proofs.expanded.first_inside.Goals as goal

pub returns-in-Some : goal.returns-in-Some
returns-in-Some c =
    let ts = term_views c.args.terms.now in
    found_here (inside_of_terms ts) (inside_of_term ts) refl (more_terms ts) c.args.lowered.now c.loop-of.of-index (inside_of_terms ts c.args.lowered.now) c.of-item.result c.in-Some.name.0 c.loop-of-test.true c.of-item.is
    (c.in-Some.ensures ∙ ap (λ bs. first_inside ts (site_views bs)) c.deref.ensures.value) c.loop-of.invariant

pub loop-of-preserved : goal.loop-of-preserved
loop-of-preserved c =
    let ts = term_views c.args.terms.now in
    none_here (inside_of_terms ts) (inside_of_term ts) refl (more_terms ts) c.args.lowered.now c.loop-of.of-index (inside_of_terms ts c.args.lowered.now) c.of-item.result c.loop-of-test.true c.of-item.is
    (ap (option_map (λ s. s.0)) (sym c.in_default.is) ∙ c.first_of_set.ensures ∙ ap (λ bs. first_inside ts (site_views bs)) c.deref.ensures.value) c.loop-of.invariant

pub returns : goal.returns
returns c =
    let ts = term_views c.args.terms.now in
    none_left (inside_of_terms ts) (inside_of_term ts) refl (more_terms ts) c.args.lowered.now c.loop-of.of-index (inside_of_terms ts c.args.lowered.now) (omega (arith, c.loop-of-test.false)) c.loop-of.invariant
