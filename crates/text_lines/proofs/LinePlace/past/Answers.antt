use Rattle.std.proofs.Common.{◌++◌, take, sym, ap, subst, ◌∙◌, arith, append_assoc}
use Rattle.std.proofs.lemmas.List.{take_all, take_more}
use Rattle.text_lines.specs.Marks.{IsBehind}
use Rattle.text_lines.proofs.LinePlace.past.Goals as goal

pub loop-byte-preserved : goal.loop-byte-preserved
loop-byte-preserved c =
    let bs = c.args.bytes.now in let i = c.loop-byte.byte-index in let v = c.loop-byte.invariant in
    record {
      place = λ front h. subst (λ xs. IsBehind xs c.behind-place.result)
          (append_assoc front (take i bs) _ ∙ ap (λ x. front ++ x) (sym (take_more bs i _ c.loop-byte-test.true)))
          (c.behind-place.ensures.place (front ++ take i bs) (v.place front h));
      line = omega (arith, v.line, c.behind-place.ensures.line);
      column = omega (arith, v.column, c.behind-place.ensures.column);
    }

pub returns : goal.returns
returns c = λ front h. subst (λ xs. IsBehind (front ++ xs) c.loop-byte.place) (take_all c.loop-byte.byte-index c.args.bytes.now (omega (arith, c.loop-byte-test.false))) (c.loop-byte.invariant.place front h)
