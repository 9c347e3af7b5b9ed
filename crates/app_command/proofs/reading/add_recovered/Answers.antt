use Rattle.std.proofs.Common.{rules, ◌≡◌, ◌++◌}
use Rattle.app_command.proofs.RecoveredTexts.{added}
use Rattle.app_command.proofs.reading.add_recovered.Goals as goal

pub returns : goal.returns
returns c =
    let defs : c.append.new.self.items ≡ c.args.found.now.defs.items ++ c.in_ok-more.more.defs.items = search rules in
    let errors : c.append-2.new.self.items ≡ c.args.found.now.errors.items ++ c.in_ok-more.more.errors.items = search rules in
    added _ _ _ _ _ _ _ defs errors c.in_ok-more.ensures.exact
