use Rattle.std.proofs.Common.{arith}
use Rattle.std.specs.Prelude.{string_bytes}
use Rattle.std.proofs.lemmas.Map.Text.{hash_set_updates_text}
use Rattle.std.proofs.lemmas.Grind.{common_steps}
use Rattle.spec_questions.proofs.answers.add_if.Goals as goal

pub returns-in_ok-insert : goal.returns-in_ok-insert
returns-in_ok-insert c = λ other.
    let set = hash_set_updates_text (string_bytes c.in_ok-clone.field-0) c.args.texts.now c.insert.new.self _ c.in_ok-insert.ensures.updates other in
    grind (arith, common_steps, set, c.in_ok-clone.ensures.cases, c.if-is_one.true)
