use Rattle.std.proofs.Common.{◌≡◌, ℕ, not, is_some, Some, Ok, refl, sym, ap, subst, ◌∙◌, string_bytes}
use Rattle.model.specs.lists.Names.{number}
use Rattle.core_types.specs.Envs.{names_of}
use Rattle.core_syntax.specs.SyntaxViews.{name_view, position}
use Rattle.model.specs.lists.Formed.{pattern_type}
use Rattle.model.specs.rules.Typed.{TypedPattern, match_bind}
use Rattle.core_typed.specs.PatternViews.{pattern_view}
use Rattle.core_rules.specs.Progress.{newest, BindsNext}
use Rattle.core_rules.specs.ShownSettings.{standing}
use Rattle.core_rules.proofs.term_env.TermEnv.bind_around.Goals as goal
use Rattle.core_typed.specs.Elaborating.{place_unless, NotesEachAt}
use Rattle.core_rules.specs.PatternTaking.{around_steps}
use Rattle.core_rules.specs.Taking.{EndsAs}
use Rattle.core_rules.proofs.PatternsTaken.{around_taken}

pub returns-clause-reads : goal.returns-clause-reads
returns-clause-reads c =
    let made : match_bind c.ty-ty.result.0 c.in_ok-id.id.0 (pattern_view c.in_ok-of.of.value) ≡ match_bind (pattern_type (pattern_view c.args.of)) c.in_ok-id.id.0 (pattern_view c.args.of) =
    ap (λ (ty : ℕ). match_bind ty c.in_ok-id.id.0 (pattern_view c.in_ok-of.of.value)) c.ty-ty.ensures ∙ ap (λ p. match_bind (pattern_type (pattern_view c.args.of)) c.in_ok-id.id.0 (pattern_view p)) c.in_ok-of.ensures.ok in
    subst (λ (q : TypedPattern). EndsAs c.args.self.now (standing c.args.tyenv.now c.args.work.now) (standing c.intern_mut.new.self c.add_var.new.self) (around_steps (string_bytes c.args.var.now.0) (position c.args.pos) (pattern_view c.args.of)) (Ok (Some q))) (sym made)
    (around_taken c.args.self.now (standing c.args.tyenv.now c.args.work.now) (standing c.intern_mut.new.self c.add_var.new.self) (name_view c.args.var.now) (position c.args.pos) (pattern_type (pattern_view c.args.of)) c.in_ok-name.ensures.names
    (standing c.args.tyenv.now c.check_new.new.work) refl c.check_new.ensures.remains (pattern_view c.args.of) refl
    (subst (λ (ty : ℕ). BindsNext (number (names_of c.args.tyenv.now) (string_bytes c.args.var.now.0)) ty c.check_new.new.work c.add_var.new.self) c.ty-ty.ensures
    (subst (λ (n : ℕ). BindsNext n c.ty-ty.result.0 c.check_new.new.work c.add_var.new.self) c.in_ok-name.ensures.number c.in_ok-id.ensures.binds))
    c.in_ok-id.id.0 c.in_ok-id.ensures.id
    (subst (λ (n : ℕ). NotesEachAt (place_unless (not (is_some (newest c.args.work.now n))) (position c.args.pos)) c.args.work.now.errors.items c.check_new.new.work.errors.items) c.in_ok-name.ensures.number c.in_ok-check_new.ensures.exact))
