use Rattle.std.proofs.Common.{All, Bool, List, take}
use Rattle.core_syntax.specs.Positions.{HasSingleSpans}
use Rattle.model.specs.claims.Environments.{IsElaborated, TypesRead, program_of}
use Rattle.model.specs.lists.Elaborated.{TypedRules}
use Rattle.model.specs.lists.Syntax.{Definition}
use Rattle.cranelift_isle.specs.SetsSoFar.{StandAfter}
use Rattle.cranelift_isle.specs.BuiltSets.{ShowsElaborated}
use Rattle.cranelift_isle.proofs.trie_again.build.Given as goal

abbrev pub invariant-loop-rule : goal.invariant-loop-rule
invariant-loop-rule l = record {
  stand : (e : TypesRead) (defs : List Definition) (expand : Bool) (rules : TypedRules) → IsElaborated e defs expand rules → ShowsElaborated e defs rules l.fn.termenv
      → StandAfter (program_of e defs rules.rules) (take l.rule-index rules.rules) l.sets l.errors.items;
  single : All HasSingleSpans l.errors.items;
}
