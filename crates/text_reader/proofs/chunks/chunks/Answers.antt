use Rattle.std.proofs.Common.{length, length-append, encode_utf8, ap, arith}
use Rattle.std.proofs.lemmas.Str.{IsUtf8-past_char}
use Rattle.std.specs.Str.Iter.{char_indices_rest}
use Rattle.text_reader.specs.RecoveryViews.{part_view}
use Rattle.text_reader.proofs.Recovered.{chunk_kept}
use Rattle.text_reader.proofs.chunks.chunks.Goals as goal

pub loop-offset-preserved : goal.loop-offset-preserved
loop-offset-preserved c =
    let v = c.loop-offset.invariant in let st = c.in-Some.ensures.steps in
    record {
      utf8 = IsUtf8-past_char _ _ c.in-Some.c v.utf8 st.1;
      size = omega (arith, v.size, ap length st.1, length-append (encode_utf8 c.in-Some.c) (char_indices_rest c.next.new.self), st.2);
      end = omega (arith, c.in-Ok.ensures.end, c.len_utf8.ensures.len, st.0, st.2);
      ends = c.in-Ok.ensures.ends;
      all = c.in-Ok.ensures.chunks;
      parts = chunk_kept c.loop-offset.place c.moved-place.result (part_view c.loop-offset.chunk) (part_view c.in-Ok.after) (part_view c.chunk_at.result) _ _ c.in-Some.c c.in-Some.offset _ _ _ _ _ v.utf8 st.1 v.parts st.0 st.2 c.moved-place.ensures c.chunk_at.ensures.part c.in-Ok.ensures.parts;
    }
