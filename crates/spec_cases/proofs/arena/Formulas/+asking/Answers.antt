use Rattle.std.proofs.Common.{◌≡◌, ◌∙◌, ◌∷◌, ◌++◌, false, sym, ap, subst}
use Rattle.model_questions.specs.Formulas as M
use Rattle.spec_cases.specs.Arenas.{is_false}
use Rattle.spec_cases.specs.Asking.{asked_after, asked_in}
use Rattle.spec_cases.specs.Namings.{fact_of}
use Rattle.spec_cases.specs.Places.{known_of}
use Rattle.spec_cases.specs.Steps.{step_view, step_views}
use Rattle.spec_cases.specs.Trails.{trails_in, AreTrails}
use Rattle.spec_cases.proofs.AskingSteps.{first_step, from_none, from_some, not_split, others_kept, shown_by, split_by, step_told, told_by, widths_by}
use Rattle.spec_cases.proofs.arena.Formulas.+asking.Goals as goal

-- a step, and those after it
pub paths-returns-in_ok-first_path-in-len1-up : goal.paths-returns-in_ok-first_path-in-len1-up
paths-returns-in_ok-first_path-in-len1-up t c = λ v w s names apart all links.
    let last = c.in_ok-first_path-in-len1-up.ensures v w s names apart all links in (
      last.0,
      last.1,
      last.2 ∙ ap (λ l. trails_in s c.args.out.now.items ++ asked_in v s c.args.asking.now l c.args.trail) (first_step v w c.args.steps.now c.step-item.result c.in-len1-up.len_at_least c.step-item.is),
    )

pub first_path-returns-in_ok-split-in-SplitAt : goal.first_path-returns-in_ok-split-in-SplitAt
first_path-returns-in_ok-split-in-SplitAt t c = λ v w s names apart all links.
    let made = c.in_ok-split-in-SplitAt.ensures v w s names apart all links in (
      made.0,
      made.1,
      made.2 ∙ ap (λ x. trails_in s c.args.out.now.items ++ asked_in v s c.args.asking.now (step_view v w x ∷ step_views v w c.args.rest.now) c.args.trail) (sym c.in-SplitAt.is),
    )

pub first_path-returns-in_ok-shown-in-Shown : goal.first_path-returns-in_ok-shown-in-Shown
first_path-returns-in_ok-shown-in-Shown t c = λ v w s names apart all links.
    let made = c.in_ok-shown-in-Shown.ensures v w s names apart all links in (
      made.0,
      made.1,
      made.2 ∙ ap (λ x. trails_in s c.args.out.now.items ++ asked_in v s c.args.asking.now (step_view v w x ∷ step_views v w c.args.rest.now) c.args.trail) (sym c.in-Shown.is),
    )

pub told_step-returns : goal.told_step-returns
told_step-returns t c = λ v w s names apart all links.
    let last = c.in_ok-unless_false.ensures v w s names apart all links in
    let fact = c.in_ok-fact.ensures v w last.0 apart all in (
      fact.0,
      last.1,
      step_told v w s c.args.asking.now c.args.out.now.items c.unless_false.new.out.items c.args.step.now (fact_of v c.in_ok-fact.fact) c.args.rest.now c.args.trail c.requires fact.1 last.2,
    )

-- a place that isn't split, or is
pub split-returns-in_ok-paths-in-None : goal.split-returns-in_ok-paths-in-None
split-returns-in_ok-paths-in-None t c = λ v w s names apart all links.
    let last = c.in_ok-paths-in-None.ensures v w s names apart all links in (
      last.0,
      last.1,
      not_split v w s c.args.asking.now c.args.out.now.items c.paths.new.out.items c.args.ty.0 (v.place c.args.place.0) c.args.rest.now c.args.trail (from_none _ _ _ c.in_ok-split_widths.ensures c.in-None.is) last.2,
    )

pub split-returns-in_ok-each_width-in-Some : goal.split-returns-in_ok-each_width-in-Some
split-returns-in_ok-each_width-in-Some t c = λ v w s names apart all links.
    let last = c.in_ok-each_width-in-Some.ensures v w s names apart all links in (
      last.0,
      last.1,
      split_by v w s c.args.asking.now c.args.out.now.items c.each_width.new.out.items c.args.ty.0 (v.place c.args.place.0) c.args.rest.now c.args.trail c.deref.result.now
          (from_some _ _ _ _ _ c.in_ok-split_widths.ensures c.in-Some.is c.deref.ensures.value) last.2,
    )

-- each width
pub each_width-returns-in_ok-each_width-in-len1-up : goal.each_width-returns-in_ok-each_width-in-len1-up
each_width-returns-in_ok-each_width-in-len1-up t c = λ v w s names apart all links.
    let last = c.in_ok-each_width-in-len1-up.ensures v w s names apart all links in
    let here = c.in_ok-told-in-len1-up.ensures v w s last.0 apart all last.1 in (
      here.0,
      subst (AreTrails v s) c.in_ok-count_branch-in-len1-up.ensures here.1,
      widths_by s (λ x. asked_after v w s c.args.asking.now (M.as_wide (v.place c.args.place.0) x) c.args.rest.now c.args.trail) c.args.widths.now 0 c.args.out.now.items c.told.new.out.items c.each_width.new.out.items
          c.in-len1-up.len_at_least here.2 last.2,
    )

-- after one fact more
pub told-returns : goal.told-returns
told-returns t c = λ v w s names apart all links.
    let last = c.in_ok-paths.ensures v w s names apart all links in
    let next = c.in_ok-next.ensures v s last.1 in (
      last.0,
      next.0,
      told_by v w s c.args.asking.now c.args.out.now.items c.paths.new.out.items (known_of v c.in_ok-known.known) (fact_of v c.args.fact) c.args.rest.now c.args.trail c.in_ok-next.next (c.in_ok-known.ensures v last.0) next.1
          last.2,
    )

-- a question, and those after it
pub shown-returns : goal.shown-returns
shown-returns t c = λ v w s names apart all links.
    let last = c.in_ok-told.ensures v w s names apart all links in
    let end = c.in_ok-end.ensures v s last.1 in
    let facts = c.in_ok-facts.ensures v w last.0 apart all in (
      facts.0,
      end.0,
      shown_by v w s c.args.asking.now c.args.out.now.items c.told.new.out.items c.args.said (fact_of v c.in_ok-facts.facts.0) (fact_of v c.in_ok-facts.facts.1) c.args.rest.now c.args.trail c.in_ok-end.end
          c.add_question.new.out.items facts.1.0 facts.1.1 end.1 c.in_ok-add_question.ensures last.2,
    )

-- a fact that isn't known to be false
pub unless_false-returns-in_ok-told : goal.unless_false-returns-in_ok-told
unless_false-returns-in_ok-told t c = λ v w s names apart all links.
    let made = c.in_ok-told.ensures v w s names apart all links in
    let open_still : is_false c.args.fact ≡ false = cc in (
      made.0,
      made.1,
      made.2
          ∙ ap (λ l. trails_in s c.args.out.now.items ++ l)
          (sym (others_kept v c.args.fact (asked_after v w s c.args.asking.now (fact_of v c.args.fact) c.args.rest.now c.args.trail) open_still)),
    )
