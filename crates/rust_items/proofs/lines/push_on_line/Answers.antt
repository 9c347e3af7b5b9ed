use Rattle.std.proofs.Common.{◌++◌, sym, ap, ◌∙◌, chars, encode_utf8}
use Rattle.std.specs.Prelude.{string_bytes}
use Rattle.std.specs.List.{flat_map}
use Rattle.std.specs.Str.Iter.{chars_rest}
use Rattle.std.proofs.lemmas.List.{append_assoc, append-nil, nil_from_length}
use Rattle.std.proofs.lemmas.Str.{IsUtf8-past_char, chars-nil, chars_past_char}
use Rattle.rust_items.specs.FilePlaces.{on_line_bytes}
use Rattle.rust_items.proofs.lines.push_on_line.Goals as goal

pub loop-c-preserved : goal.loop-c-preserved
loop-c-preserved c =
    let v = c.loop-c.invariant in let st = c.in-Some.ensures.steps in record {
      utf8 = IsUtf8-past_char _ _ c.in-Some.c v.utf8 st.0;
      text = ap (λ x. x ++ flat_map on_line_bytes (chars (chars_rest c.next.new.self))) (c.in_ok-push.ensures.bytes ∙ ap (λ d. string_bytes c.loop-c.out ++ encode_utf8 d) c.on_line.ensures)
          ∙ append_assoc (string_bytes c.loop-c.out) (on_line_bytes c.in-Some.c) (flat_map on_line_bytes (chars (chars_rest c.next.new.self)))
          ∙ ap (λ x. string_bytes c.loop-c.out ++ flat_map on_line_bytes x) (sym (chars_past_char _ _ c.in-Some.c v.utf8 st.0)) ∙ v.text;
    }

pub returns : goal.returns
returns c =
    sym (append-nil _) ∙ ap (λ x. string_bytes c.loop-c.out ++ flat_map on_line_bytes x) (sym (ap chars (nil_from_length _ c.in-None.ensures.steps.0.0) ∙ chars-nil)) ∙ c.loop-c.invariant.text
