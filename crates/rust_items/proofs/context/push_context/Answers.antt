use Rattle.std.proofs.Common.{◌∙◌, ◌++◌, codes, ap, subst}
use Rattle.std.specs.Prelude.{string_bytes}
use Rattle.std.proofs.lemmas.Result.{IfErr-weaker, on_ok_weaker}
use Rattle.rust_items.specs.ItemViews.{added_views}
use Rattle.rust_items.specs.LineViews.{lines_view}
use Rattle.rust_items.specs.WrittenItems.{AreAlike, TellsTwoSignatures, firsts, function_lines, trait_begin}
use Rattle.rust_items.proofs.Turns.{tells_more}
use Rattle.rust_items.proofs.context.push_context.Goals as goal

pub returns-clause-written : goal.returns-clause-written
returns-clause-written c =
    on_ok_weaker c.push_trait.result
    (λ h. h ∙ ap (λ fs. string_bytes c.args.out.now ++ (trait_begin ++ (function_lines (firsts fs) ++ codes "}\n"))) (ap added_views c.deref.ensures.value ∙ c.in_ok-functions.ensures)) c.push_trait.ensures.written

pub returns-clause-alike : goal.returns-clause-alike
returns-clause-alike c = on_ok_weaker c.push_trait.result (subst AreAlike (ap added_views c.deref.ensures.value ∙ c.in_ok-functions.ensures)) c.push_trait.ensures.alike

pub returns-clause-wrong : goal.returns-clause-wrong
returns-clause-wrong c =
    let sources = lines_view c.args.program.lines.now in
    IfErr-weaker c.push_trait.result _ _
    (λ e h. tells_more e _ _ h (λ text. subst (λ fs. TellsTwoSignatures sources fs text) (ap added_views c.deref.ensures.value ∙ c.in_ok-functions.ensures))) c.push_trait.ensures.wrong
