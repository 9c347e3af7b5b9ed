use Rattle.std.proofs.Common.{◌++◌, sym, ap, ◌∙◌, chars}
use Rattle.std.specs.Prelude.{string_bytes}
use Rattle.std.specs.Str.Iter.{chars_rest}
use Rattle.std.proofs.lemmas.List.{append-nil}
use Rattle.std.proofs.lemmas.Str.{IsUtf8-past_char}
use Rattle.text_writer.specs.Pages.{behind}
use Rattle.text_writer.proofs.Texts.{next_char, no_char, moved_over}
use Rattle.text_writer.proofs.layout.push.Goals as goal

pub loop-c-preserved : goal.loop-c-preserved
loop-c-preserved c =
    let v = c.loop-c.invariant in let st = c.in-Some.ensures.steps in record {
      utf8 = IsUtf8-past_char _ _ c.in-Some.c v.utf8 st.0;
      place = ap (λ p. behind p (chars (chars_rest c.next.new.self))) c.in_ok-behind.ensures.place ∙ next_char (behind c.loop-c.behind) _ c.in-Some.c _ _ v.utf8 st.0 v.place;
      text = moved_over _ _ c.in-Some.c _ _ c.in_ok-behind.ensures.text (next_char (λ x. chars (string_bytes c.loop-c.text) ++ x) _ c.in-Some.c _ _ v.utf8 st.0 v.text);
    }

pub returns-clause-place : goal.returns-clause-place
returns-clause-place c = no_char (behind c.loop-c.behind) _ _ c.in-None.ensures.steps.0.0 c.loop-c.invariant.place

pub returns-clause-text : goal.returns-clause-text
returns-clause-text c = sym (append-nil _) ∙ no_char (λ x. chars (string_bytes c.loop-c.text) ++ x) _ _ c.in-None.ensures.steps.0.0 c.loop-c.invariant.text
