use Rattle.std.proofs.Common.{All, drop, map}
use Rattle.core_terms.specs.TermViews.{term_views}
use Rattle.core_typed.specs.RuleViews.{iflet_view}
use Rattle.core_rules.specs.Constructors.{IfLetCallsMade}
use Rattle.core_rules.proofs.term_env.TermEnv.iflets_call_made.Given as goal

abbrev pub invariant-loop-iflet : goal.invariant-loop-iflet
invariant-loop-iflet l = (All (IfLetCallsMade (term_views l.self.terms.items)) (map iflet_view (drop l.iflet-index l.iflets)) → All (IfLetCallsMade (term_views l.self.terms.items)) (map iflet_view l.iflets)) × (All (IfLetCallsMade (term_views l.self.terms.items)) (map iflet_view l.iflets) → All (IfLetCallsMade (term_views l.self.terms.items)) (map iflet_view (drop l.iflet-index l.iflets)))
