use Rattle.std.proofs.Common.{map}
use Rattle.core_syntax.specs.SyntaxViews as S
use Rattle.std.specs.List.{flat_map}
use Rattle.core_syntax.specs.Positions.{NotesAt, iflet_positions}
use Rattle.core_terms.specs.TermViews.{flags_view}
use Rattle.core_rules.specs.RulePositions.{with_templates}
use Rattle.core_rules.specs.ShownSettings.{standing, Keeps}
use Rattle.core_rules.specs.RuleTaking.{iflets_steps}
use Rattle.core_rules.specs.Taking.{LeadsOn}
use Rattle.core_rules.proofs.SidesTaken.{after_iflets, iflets_from}
use Rattle.core_rules.proofs.term_env.TermEnv.translate_iflets.Given as goal

abbrev pub invariant-loop-iflet : goal.invariant-loop-iflet
invariant-loop-iflet l =
    Keeps l.fn.tyenv l.tyenv
    × NotesAt (with_templates l.self (flat_map iflet_positions (map S.iflet_view l.iflets))) l.fn.work.errors.items l.work.errors.items
    × LeadsOn l.self (standing l.fn.tyenv l.fn.work) (standing l.tyenv l.work) (iflets_steps (map S.iflet_view l.iflets) (flags_view l.flags) l.nesting) (iflets_from (flags_view l.flags) l.iflets l.nesting l.iflet-index) (after_iflets l.made.items)
