use Rattle.std.proofs.Common.{◌||◌, ◌∙◌, get_or, refl, ap}
use Rattle.std.proofs.lemmas.List.{take_all}
use Rattle.core_containers.specs.Places.{is_in}
use Rattle.core_containers.proofs.Tables.{in_more, grown_first, grown_more}
use Rattle.core_containers.proofs.stacks.Stack.insert_all.Goals as goal

pub loop-number-init : goal.loop-number-init
loop-number-init c = record { added = λ n. refl; grown = grown_first c.args.self.now }

pub loop-number-preserved : goal.loop-number-preserved
loop-number-preserved c =
    let xs = c.args.numbers.now in
    let i = c.loop-number.number-index in
    record {
      added = λ n. in_more xs i n c.args.self.now c.loop-number.self c.insert.new.self c.loop-number-test.true c.in_ok-insert.ensures.added (c.loop-number.invariant.added n);
      grown = grown_more c.args.self.now c.loop-number.self c.insert.new.self (get_or xs i 0) c.in_ok-insert.ensures.added c.loop-number.invariant.grown;
    }

pub returns-clause-added : goal.returns-clause-added
returns-clause-added c n =
    c.loop-number.invariant.added n ∙ ap (λ l. is_in n l || is_in n c.args.self.now) (take_all c.loop-number.number-index c.args.numbers.now c.loop-number-test.false)
