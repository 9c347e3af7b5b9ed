use Rattle.std.proofs.Common.{◌++◌, [], ◌∷◌, ap, ◌∙◌}
use Rattle.core_rule_sets.proofs.ClassEndings.{listed_more}
use Rattle.core_rule_sets.proofs.class_lists.add_to_list.Goals as goal

pub returns : goal.returns
returns g c =
    listed_more c.args.lists.now c.take_list-listed.new.lists c.insert.new.self c.args.class c.args.item c.push.new.self (c.in_ok-push.ensures.items ∙ ap (λ l. l ++ c.args.item ∷ []) c.take_list-listed.ensures.taken)
    c.take_list-listed.ensures.rest c.in_ok-insert.ensures.updates
