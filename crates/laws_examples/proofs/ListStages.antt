-- What lists of definitions become, whether their rules can be told apart, and what has no typed rules: by the judges.
use Rattle.std.proofs.Common.{◌≡◌, true, false, List, [], Some, None, arith}
use Rattle.std.proofs.lemmas.Grind.{common_steps}
use Rattle.model.specs.claims.AcceptJudge.{accepted_list}
use Rattle.model.specs.claims.Layers.{own_program}
use Rattle.model.specs.claims.ReadJudge.{read_list}
use Rattle.model.specs.lists.Elaborated.{TypedRules}
use Rattle.model.specs.lists.Syntax.{Definition}
use Rattle.model.specs.sites.Overlap.{check_reports}
use Rattle.laws_sites.proofs.overlaps.JudgedLists.{lists_are_accepted_lem}
use Rattle.laws_typing.proofs.JudgedReading.{lists_are_read_lem, lists_are_refused_lem}
use Rattle.laws_examples.specs.Stages.{IsAcceptedBoth, IsNotRead, IsReadBoth}

pub read_both : (defs : List Definition) (rules : TypedRules) → read_list defs true ≡ Some rules → read_list defs false ≡ Some rules → IsReadBoth defs rules
read_both defs rules h k = ((lists_are_read_lem defs true rules).0 h, (lists_are_read_lem defs false rules).0 k)

pub accepted_both : (defs : List Definition) (rules : TypedRules) → accepted_list defs true ≡ Some rules → accepted_list defs false ≡ Some rules → check_reports (own_program defs rules) ≡ [] → IsAcceptedBoth defs rules
accepted_both defs rules h k none = ((lists_are_accepted_lem defs true rules).0 h, (lists_are_accepted_lem defs false rules).0 k, none)

pub not_read : (defs : List Definition) → read_list defs true ≡ None → read_list defs false ≡ None → IsNotRead defs
not_read defs h k i rules = grind (arith, common_steps, lists_are_refused_lem defs true, lists_are_refused_lem defs false)
