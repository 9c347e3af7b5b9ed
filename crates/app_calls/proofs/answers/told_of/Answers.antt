use Rattle.app_calls.proofs.Telling.{is_no_code, told_of_said}
use Rattle.app_calls.proofs.answers.told_of.Goals as goal

pub returns-in-Trees : goal.returns-in-Trees
returns-in-Trees c =
    record {
      known = c.said.ensures.known;
      left = c.said.ensures.left;
      told = told_of_said c.args.asked c.args.reading.now c.args.out.now c.said.new.out c.said.new.sizes c.said.result
          (is_no_code c.args.asked.task c.in-Trees.is) c.said.ensures.said;
    }
