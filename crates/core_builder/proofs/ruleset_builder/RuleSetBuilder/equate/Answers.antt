use Rattle.std.proofs.lemmas.Result.{on_ok_weaker}
use Rattle.core_builder.proofs.BuilderSteps.{sites_equated, ok_both}
use Rattle.core_builder.proofs.ruleset_builder.RuleSetBuilder.equate.Goals as goal

pub returns : goal.returns
returns c = record {
  equated = λ before v h l m.
      let b = c.args.self.now in
      on_ok_weaker c.equate.result
      (λ both. sites_equated before b v h c.equate.new.self c.args.first c.args.second l m both.1 c.equate.ensures.asked both.0)
      (ok_both _ _ c.equate.result c.equate.ensures.equated (c.equate.ensures.due h.due));
}
