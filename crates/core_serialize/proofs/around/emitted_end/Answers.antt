use Rattle.std.proofs.Common.{◌≡◌, true, sym, ◌∙◌, subst}
use Rattle.std.proofs.lemmas.List.{take_all}
use Rattle.model.specs.trees.Places.{is_in}
use Rattle.core_serialize.proofs.ListedSites.{end_more}
use Rattle.core_serialize.proofs.around.emitted_end.Goals as goal

pub loop-site-preserved : goal.loop-site-preserved
loop-site-preserved c =
    end_more c.behind-site-items.result.now c.loop-site.site-index c.loop-site.end c.end_with-end.result c.loop-site-test.true c.end_with-end.ensures.others c.end_with-end.ensures.this c.loop-site.invariant

pub returns : goal.returns
returns c s h =
    c.loop-site.invariant s (subst (λ l. is_in s l ≡ true) (sym (take_all c.loop-site.site-index c.behind-site-items.result.now c.loop-site-test.false ∙ c.behind-site-items.ensures)) h)
