use Rattle.std.proofs.Common.{◌≡◌, drop}
use Rattle.std.specs.Prelude.{None}
use Rattle.app_words.specs.Requests.{texts_behind}
use Rattle.app_words.proofs.conditions.texts_asked.Given as goal

abbrev pub invariant-loop-item : goal.invariant-loop-item
invariant-loop-item l = texts_behind l.texts (drop l.item-index l.items) ≡ texts_behind None l.items
