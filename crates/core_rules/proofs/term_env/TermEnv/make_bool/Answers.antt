use Rattle.std.proofs.Common.{refl}
use Rattle.core_syntax.specs.SyntaxViews.{position}
use Rattle.core_rules.specs.ExprReadings.{expected}
use Rattle.core_rules.specs.ShownSettings.{standing}
use Rattle.core_rules.proofs.ExprsTaken as taken
use Rattle.core_rules.proofs.term_env.TermEnv.make_bool.Goals as goal

pub returns-clause-reads : goal.returns-clause-reads
returns-clause-reads c flags d =
    taken.truth_made c.args.self.now (standing c.args.tyenv.now c.args.work.now) _ (position c.args.pos) flags (expected c.args.expected_ty) d (record { vars = refl; names = λ k. refl; expansions = refl }) refl
    c.args.val c.in_ok-check_truth.ensures.exact
