use Rattle.std.proofs.Common.{◌++◌, sym, ◌∙◌}
use Rattle.std.specs.Prelude.{string_bytes}
use Rattle.std.specs.List.{flat_map}
use Rattle.std.proofs.lemmas.List.{append-nil}
use Rattle.std.proofs.lemmas.Str.{IsUtf8-past_char}
use Rattle.rust_items.specs.RustNames.{escaped}
use Rattle.rust_items.proofs.GrownTexts.{next_char, no_char, moved_over}
use Rattle.rust_items.proofs.names.push_all_escaped.Goals as goal

pub loop-c-preserved : goal.loop-c-preserved
loop-c-preserved c =
    let v = c.loop-c.invariant in let st = c.in-Some.ensures.steps in record {
      utf8 = IsUtf8-past_char _ _ c.in-Some.c v.utf8 st.0;
      text = moved_over _ _ (escaped c.in-Some.c) _ _ c.in_ok-push_escaped.ensures (next_char (λ x. string_bytes c.loop-c.out ++ flat_map escaped x) _ c.in-Some.c _ _ v.utf8 st.0 v.text);
    }

pub returns : goal.returns
returns c = sym (append-nil _) ∙ no_char (λ x. string_bytes c.loop-c.out ++ flat_map escaped x) _ _ c.in-None.ensures.steps.0.0 c.loop-c.invariant.text
