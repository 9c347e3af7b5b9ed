use Rattle.std.proofs.Common.{◌≡◌, ℕ, Option, None, refl, ap, subst, ◌∙◌}
use Rattle.core_syntax.specs.SyntaxViews.{name_view, position}
use Rattle.model.specs.rules.Typed.{TypedVar}
use Rattle.core_rules.specs.Progress.{newest, BindsNext}
use Rattle.core_typed.specs.RuleViews.{var_view}
use Rattle.core_rules.specs.ShownSettings.{standing}
use Rattle.core_rules.proofs.term_env.TermEnv.translate_var.Goals as goal
use Rattle.core_rules.proofs.PatternsTaken.{var_taken, new_taken}

pub returns-in_default-clause-reads : goal.returns-in_default-clause-reads
returns-in_default-clause-reads c =
    let none : ◌≡◌ {A = Option TypedVar} None (newest c.args.work.now c.in_ok-name.name.0) = c.in_default.ensures in
    let of = c.in_ok-of.ensures.ok in
    let v = new_taken c.args.self.now (standing c.args.tyenv.now c.args.work.now) (standing c.intern_mut.new.self c.add_var.new.self) (name_view c.args.var.now) (position c.args.pos) c.args.expected_ty.0 c.in_ok-name.ensures.names
    (none ∙ ap (newest c.args.work.now) c.in_ok-name.ensures.number)
    (subst (λ (n : ℕ). BindsNext n c.args.expected_ty.0 c.args.work.now c.add_var.new.self) c.in_ok-name.ensures.number c.in_ok-id.ensures.binds)
    c.in_ok-id.id.0 c.in_ok-id.ensures.id in
    rw of v

pub returns-clause-reads : goal.returns-clause-reads
returns-clause-reads c =
    var_taken c.args.self.now (standing c.args.tyenv.now c.args.work.now) _ (name_view c.args.var.now) (position c.args.pos) c.args.expected_ty.0 c.in_ok-name.ensures.names
    (var_view c.in-Some.bound) (c.in-Some.ensures ∙ ap (newest c.args.work.now) c.in_ok-name.ensures.number) (record { vars = refl; names = λ k. refl; expansions = refl }) c.in_ok-check_same.ensures.exact
