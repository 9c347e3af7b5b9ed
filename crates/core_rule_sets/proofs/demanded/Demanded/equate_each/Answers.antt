use Rattle.std.proofs.Common.{◌<◌, length, ◌∙◌, arith}
use Rattle.core_rule_sets.specs.SiteDemands.{are_equated}
use Rattle.core_rule_sets.proofs.EqualityPairs.{one_pair_more}
use Rattle.core_rule_sets.proofs.demanded.Demanded.equate_each.Goals as goal

pub loop-i-preserved : goal.loop-i-preserved
loop-i-preserved c =
    let within : c.loop-i.i < length c.args.seconds.now = omega (arith, c.requires) in
    record {
      asked = c.in_ok-equate.ensures.asked ∙ c.loop-i.invariant.asked;
      due = λ keeps. c.in_ok-equate.ensures.due (c.loop-i.invariant.due keeps);
      equated = λ a b.
          one_pair_more (are_equated c.loop-i.self) (are_equated c.equate.new.self) c.args.firsts.now c.args.seconds.now c.loop-i.i c.index-firsts-i.result c.index-seconds-i.result c.loop-i-test.true within
          c.index-firsts-i.is c.index-seconds-i.is c.in_ok-equate.ensures.equated a b
          ∙ c.loop-i.invariant.equated a b;
    }
