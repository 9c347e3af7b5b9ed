use Rattle.std.proofs.Common.{All, sym, ap, subst, ◌∙◌, ◌++◌, ◌∷◌, [], take}
use Rattle.std.proofs.lemmas.List.{map-append, take_more}
use Rattle.std.proofs.lemmas.List.Elements.{All-push}
use Rattle.core_syntax.specs.ErrorViews.{span_starts}
use Rattle.core_syntax.specs.Places.{single_end}
use Rattle.core_syntax.specs.Positions.{IsSingle}
use Rattle.core_syntax.specs.SyntaxViews.{position}
use Rattle.core_syntax.specs.declared.syntax.Span.{Span}
use Rattle.core_overlap.specs.Comparisons.{positions}
use Rattle.core_overlap.proofs.overlap.spans_of.Goals as goal

pub loop-place-preserved : goal.loop-place-preserved
loop-place-preserved c =
    let places = c.args.places.now in
    let i = c.loop-place.place-index in
    let old = c.loop-place.spans.items in
    let span = c.new_single.result in
    record {
      starts =
          ap span_starts c.in_ok-push.ensures.items
          ∙ map-append (λ (s : Span). position s.from) old (span ∷ [])
          ∙ (λ k. c.loop-place.invariant.starts k ++ position (c.new_single.ensures.from k) ∷ [])
          ∙ sym (ap positions (take_more places i _ c.loop-place-test.true) ∙ map-append position (take i places) _);
      single = subst (All IsSingle) (sym c.in_ok-push.ensures.items)
          (All-push IsSingle old span c.loop-place.invariant.single (c.new_single.ensures.to ∙ ap single_end (sym c.new_single.ensures.from)));
    }
