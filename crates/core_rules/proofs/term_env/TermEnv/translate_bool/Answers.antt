use Rattle.std.proofs.Common.{refl}
use Rattle.core_syntax.specs.SyntaxViews.{position}
use Rattle.core_rules.specs.ShownSettings.{standing}
use Rattle.core_rules.proofs.term_env.TermEnv.translate_bool.Goals as goal
use Rattle.core_rules.proofs.PatternsTaken.{truth_taken}

pub returns-clause-reads : goal.returns-clause-reads
returns-clause-reads c =
    truth_taken c.args.self.now (standing c.args.tyenv.now c.args.work.now) _ refl (position c.args.pos) c.args.expected_ty.0 (record { vars = refl; names = λ k. refl; expansions = refl })
    c.args.val c.in_ok-check_bool.ensures.exact
