use Rattle.std.proofs.Common.{◌≡◌, ℕ, Option, None, option_map, refl, ap, ◌∙◌}
use Rattle.core_syntax.specs.Stable.{look_up}
use Rattle.core_syntax.specs.SyntaxViews.{name_view, position}
use Rattle.core_types.specs.Envs.{constant_at, symbol, same_symbol}
use Rattle.core_rules.specs.ShownSettings.{standing}
use Rattle.core_rules.proofs.term_env.TermEnv.translate_prim.Goals as goal
use Rattle.core_typed.proofs.NotedErrors.{told_at}
use Rattle.core_rules.proofs.PatternsTaken.{unknown_taken, constant_taken}

pub returns-in_default-clause-reads : goal.returns-in_default-clause-reads
returns-in_default-clause-reads c =
    let none : ◌≡◌ {A = Option ℕ} None (constant_at c.intern_mut.new.self c.in_ok-name.name.0) = c.in_default.ensures in
    unknown_taken c.args.self.now (standing c.args.tyenv.now c.args.work.now) _ (name_view c.args.val.now) (position c.args.pos) c.args.expected_ty.0 c.in_ok-name.ensures.names
    (none ∙ ap (λ t. option_map (λ i. i.0) (look_up same_symbol t (symbol c.in_ok-name.name.0))) c.intern_mut.ensures.const_types ∙ ap (constant_at c.args.tyenv.now) c.in_ok-name.ensures.number)
    (record { vars = refl; names = λ k. refl; expansions = refl }) (told_at (position c.args.pos) _ _ c.in_ok-report_name.ensures.told)

pub returns-clause-reads : goal.returns-clause-reads
returns-clause-reads c =
    constant_taken c.args.self.now (standing c.args.tyenv.now c.args.work.now) _ (name_view c.args.val.now) (position c.args.pos) c.args.expected_ty.0 c.in_ok-name.ensures.names
    c.in-Some.ty.0 c.in_ok-name.name.0
    (c.in-Some.ensures ∙ ap (λ t. option_map (λ i. i.0) (look_up same_symbol t (symbol c.in_ok-name.name.0))) c.intern_mut.ensures.const_types ∙ ap (constant_at c.args.tyenv.now) c.in_ok-name.ensures.number)
    c.in_ok-name.ensures.number (record { vars = refl; names = λ k. refl; expansions = refl }) c.in_ok-check_same.ensures.exact
