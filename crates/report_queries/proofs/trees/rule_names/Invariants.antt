use Rattle.std.proofs.Common.{◌≡◌, drop}
use Rattle.std.specs.BTreeMap.{get}
use Rattle.core_syntax.specs.SyntaxViews.{position}
use Rattle.core_syntax.specs.declared.syntax.Pos.{Pos}
use Rattle.core_syntax.specs.contracts.syntax.PosOrd.TheImpl.{ghosts}
use Rattle.report_queries.specs.TermTexts.{name_behind, rule_at}
use Rattle.report_queries.proofs.trees.rule_names.Given as goal

abbrev pub invariant-loop-rule : goal.invariant-loop-rule
invariant-loop-rule l = (q : Pos) → name_behind (get ghosts.cmp l.names q) (drop l.rule-index l.rule-items) (position q) ≡ rule_at l.rule-items (position q)
