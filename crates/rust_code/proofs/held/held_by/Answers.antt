use Rattle.std.proofs.Common.{◌≡◌, length, rules, arith, ap}
use Rattle.rust_code.proofs.SiteHolds.{count_pushed, held_pushed, held_whole}
use Rattle.rust_code.proofs.held.held_by.Goals as goal

pub loop-number-init : goal.loop-number-init
loop-number-init c =
    let none : length c.new-held.result.items ≡ 0 = ap length c.new-held.ensures.items in
    record { count = none; made = λ constants rules are s b. absurd (omega (arith, b, none)) }

pub loop-number-preserved : goal.loop-number-preserved
loop-number-preserved c =
    let held = c.loop-number.held.items in
    let new = c.push.new.self.items in
    let x = c.held_here.result in
    record {
      count = count_pushed held new x c.loop-number.number c.loop-number.invariant.count c.in_ok-push.ensures.items;
      made = held_pushed held new x c.loop-number.number c.loop-number.invariant.count c.in_ok-push.ensures.items c.args.tables.now c.held_here.ensures c.loop-number.invariant.made;
    }

pub returns : goal.returns
returns c = held_whole c.args.tables.now c.loop-number.held.items (search rules) c.loop-number.invariant.made
