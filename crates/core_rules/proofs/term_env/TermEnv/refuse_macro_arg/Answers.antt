use Rattle.std.proofs.Common.{refl}
use Rattle.core_rules.proofs.term_env.TermEnv.refuse_macro_arg.Goals as goal
use Rattle.core_syntax.specs.SyntaxViews.{position}
use Rattle.core_typed.proofs.NotedErrors.{told_at}
use Rattle.core_rules.specs.ShownSettings.{standing}
use Rattle.core_rules.proofs.PatternsTaken.{refused_taken}

pub returns-clause-reads : goal.returns-clause-reads
returns-clause-reads c =
    refused_taken c.args.self.now (standing c.args.tyenv.now c.args.work.now) _ refl (position c.args.pos) c.args.expected_ty.0 (record { vars = refl; names = λ k. refl; expansions = refl })
    c.args.index (told_at (position c.args.pos) _ _ c.in_ok-report.ensures.told)
