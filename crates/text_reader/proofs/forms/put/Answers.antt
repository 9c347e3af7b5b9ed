use Rattle.std.proofs.Common.{◌≡◌, [], ◌++◌, sym, ap, ◌∙◌, arith}
use Rattle.std.proofs.lemmas.Grind.{common_steps}
use Rattle.std.specs.Prelude.{Some, Ok, option_to_list}
use Rattle.core_syntax.specs.SyntaxViews.{name_view}
use Rattle.text_reader.specs.FormTrees.{a_binding}
use Rattle.text_reader.specs.FormViews.{all_view, begun_views, form_view}
use Rattle.text_reader.specs.Forming.{put}
use Rattle.text_reader.proofs.Rows.{row-from_forms}
use Rattle.text_reader.proofs.Stacks.{forms_pushed, stack_pushed, put_into}
use Rattle.text_reader.proofs.forms.put.Goals as goal

pub loop-begun-preserved : goal.loop-begun-preserved
loop-begun-preserved c = (
  grind (arith, common_steps),
  grind (arith, common_steps, row-from_forms),
  c.loop-begun.invariant.2,
  let popped = c.pop.ensures.items ∙ ap (λ r. c.pop.new.self.items ++ option_to_list r) (c.in-Some.is ∙ ap Some c.in-Binder.is) in
      ap (λ f. put (a_binding (name_view c.in-Binder.name) (form_view f)) (all_view c.args.forms.now.items) (begun_views c.pop.new.self.items)) c.in_ok-new-in-Binder.ensures.ok
      ∙ ap (put (form_view c.loop-begun.form) (all_view c.args.forms.now.items)) (sym (stack_pushed _ _ _ popped))
      ∙ c.loop-begun.invariant.3,
)

pub returns-in-Group-clause-read : goal.returns-in-Group-clause-read
returns-in-Group-clause-read c =
    let popped = c.pop.ensures.items ∙ ap (λ r. c.pop.new.self.items ++ option_to_list r) (c.in-Some.is ∙ ap Some c.in-Group.is) in
    ap Ok (sym c.loop-begun.invariant.3 ∙ put_into _ _ _ _ _ _ _ _ popped c.in_ok-push-in-Group.ensures.items c.in_ok-push-in-Group-2.ensures.items)

pub returns-clause-read : goal.returns-clause-read
returns-clause-read c =
    let none : c.pop.new.self.items ≡ [] = grind (arith, common_steps) in
    let before : c.loop-begun.stack.items ≡ [] = grind (arith, common_steps) in
    ap Ok (
    sym c.loop-begun.invariant.3
    ∙ ap (λ os. put (form_view c.loop-begun.form) (all_view c.args.forms.now.items) (begun_views os)) before
    ∙ ap (λ fs. (fs, [])) (sym (forms_pushed _ _ _ c.in_ok-push.ensures.items))
    ∙ ap (λ os. (all_view c.push-2.new.self.items, begun_views os)) (sym none))
