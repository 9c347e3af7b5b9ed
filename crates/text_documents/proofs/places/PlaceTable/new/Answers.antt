use Rattle.std.proofs.Common.{◌≡◌, ◌+◌, ◌∷◌, All, length, sym, ap, subst, ◌∙◌, arith, chars, encode_utf8, length-append}
use Rattle.std.proofs.lemmas.List.Elements.{All-push}
use Rattle.std.proofs.lemmas.Str.{IsUtf8-past_char, chars_past_char, length-encode}
use Rattle.std.specs.Str.Iter.{chars_rest}
use Rattle.text_documents.specs.Tables.{IsMark}
use Rattle.text_documents.proofs.places.PlaceTable.new.Goals as goal
use Rattle.text_documents.proofs.places.PlaceTable.new.Goals.{then-mark-next+in_ok-push, else-mark-next}

pub loop-next-preserved : goal.loop-next-preserved
loop-next-preserved c =
    let v = c.loop-next.invariant in let x = c.in-Some.c in let m = c.loop-next.mark in let text = chars c.args.text.now in
    let step = c.in-Some.ensures.steps.0 in
    let next = chars_rest c.next.new.self in
    let size = ap length step ∙ length-append (encode_utf8 x) next in
    record {
      utf8 = IsUtf8-past_char _ _ x v.utf8 step;
      rest = c.past-mark.ensures.rest ∙ c.as_str.ensures;
      length = omega (arith, v.length, size, length-encode x, c.past-mark.ensures.offset);
      mark = c.past-mark.ensures.mark text v.mark (ap chars v.rest ∙ chars_past_char _ _ x v.utf8 step ∙ ap (λ b. x ∷ chars b) (sym c.as_str.ensures));
      marks = elim c.if-mark-next.branch [
        | then-mark-next+in_ok-push w ↦ subst (All (IsMark text)) (sym (ap (λ ms. ms.items) w.marks-is ∙ w.in_ok-push.ensures.items)) (All-push (IsMark text) c.loop-next.marks.items m v.marks v.mark)
        | else-mark-next w ↦ subst (All (IsMark text)) (sym (ap (λ ms. ms.items) w.marks-is)) v.marks
      ];
    }
