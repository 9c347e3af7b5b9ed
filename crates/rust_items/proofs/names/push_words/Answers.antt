use Rattle.std.proofs.Common.{[], ◌∷◌, ◌++◌, sym, ◌∙◌, map}
use Rattle.std.specs.Prelude.{string_bytes}
use Rattle.std.proofs.lemmas.List.{append-nil}
use Rattle.std.proofs.lemmas.Str.{IsUtf8-past_char}
use Rattle.rust_items.specs.RustNames.{word_for}
use Rattle.rust_items.proofs.GrownTexts.{next_char, no_char, moved_over, pushed_word}
use Rattle.rust_items.proofs.names.push_words.Goals as goal

pub loop-c-preserved : goal.loop-c-preserved
loop-c-preserved c =
    let v = c.loop-c.invariant in let st = c.in-Some.ensures.steps in record {
      utf8 = IsUtf8-past_char _ _ c.in-Some.c v.utf8 st.0;
      text = moved_over _ _ (word_for c.in-Some.c ∷ []) _ _ (pushed_word _ _ _ c.in-Some.c c.word_for.ensures c.in_ok-push.ensures.bytes) (next_char (λ x. string_bytes c.loop-c.out ++ map word_for x) _ c.in-Some.c _ _ v.utf8 st.0 v.text);
    }

pub returns : goal.returns
returns c = sym (append-nil _) ∙ no_char (λ x. string_bytes c.loop-c.out ++ map word_for x) _ _ c.in-None.ensures.steps.0.0 c.loop-c.invariant.text
