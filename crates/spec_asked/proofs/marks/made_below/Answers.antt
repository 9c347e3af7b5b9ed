use Rattle.std.proofs.Common.{length, arith, ap, ◌∙◌}
use Rattle.spec_asked.specs.Marks.{marks}
use Rattle.spec_asked.proofs.MarkSteps.{written_whole}
use Rattle.spec_asked.proofs.marks.made_below.Goals as goal

pub returns : goal.returns
returns c = λ first n l.
    let made = c.in_ok-made.made in
    let value = c.deref_mut.ensures.value in
    let kept = c.mark_below.auto.made in
    let of_value = ap length value in
    let ok = made.ok in
    ap (λ l. marks l n) (written_whole made.len c.mark_below.new.made made.items (omega (arith, kept, of_value)) (omega (arith, ok)))
    ∙ c.mark_below.ensures first (of_value ∙ c.in_ok-made.ensures.count) (λ k. ap (λ l. marks l k) value ∙ c.in_ok-made.ensures.none k) n l
