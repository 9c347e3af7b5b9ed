use Rattle.std.proofs.Common.{Contains, ◌≡◌, ℕ, Option, None, Some, map, option_map, refl, sym, ap, subst, ◌∙◌, inl, [], ◌∷◌}
use Rattle.core_syntax.specs.SyntaxViews.{name_view, position, pattern_view, pattern_views}
use Rattle.model.specs.lists.Syntax.{PatternTree}
use Rattle.model.specs.lists.Expansions.{substituted}
use Rattle.core_terms.specs.TermViews.{term_view}
use Rattle.core_rules.specs.PatternTaking.{pattern_steps}
use Rattle.core_rules.specs.PatternUses.{name_at, inside_term}
use Rattle.core_rules.specs.Taking.{LeadsOn}
use Rattle.core_rules.specs.ShownSettings.{standing}
use Rattle.core_rules.proofs.Readings.{stop_is}
use Rattle.core_rules.proofs.PatternUsing.{list_is, list_length, template_expands}
use Rattle.model.proofs.Members.{in_head}
use Rattle.core_syntax.specs.Positions.{pattern_positions, patterns_positions}
use Rattle.core_syntax.proofs.Positioned.{among_same, notes_nothing, notes_both}
use Rattle.core_rules.proofs.ErrorPositions.{stop_step, counted_stop}
use Rattle.core_rules.proofs.SubstitutedPlaces.{converted_places, expanded_places}
use Rattle.core_rules.proofs.term_env.TermEnv.use_in_pattern.Goals as goal
use Rattle.core_typed.proofs.NotedErrors.{told_at}
use Rattle.core_rules.proofs.PatternUsesTaken as taken

pub returns-in_err-left-clause-places : goal.returns-in_err-left-clause-places
returns-in_err-left-clause-places c =
    rw (stop_is c.from_residual-in_err-left.result c.in_err-left.field-0.0 c.from_residual-in_err-left.ensures)
    (counted_stop (position c.args.pos ∷ []) c.args.nesting c.args.work.now c.expand.new.self c.in_err-left.field-0.0 c.in_err-left.ensures)

pub returns-in-Some-pattern_converter-clause-places : goal.returns-in-Some-pattern_converter-clause-places
returns-in-Some-pattern_converter-clause-places c =
    notes_nothing (position c.args.pos ∷ []) c.args.work.now.errors.items c.expand.new.self.errors.items c.in_ok-left.ensures.1.errors

pub returns-in_default-template_of-clause-places : goal.returns-in_default-template_of-clause-places
returns-in_default-template_of-clause-places c =
    notes_both (position c.args.pos ∷ []) c.args.work.now.errors.items c.check_use.new.work.errors.items _ c.in_ok-check_use.ensures.places c.in_ok-check_extractor.ensures.places

pub returns-in_err-left-2-clause-places : goal.returns-in_err-left-2-clause-places
returns-in_err-left-2-clause-places c =
    rw (stop_is c.from_residual-in_err-left-2.result c.in_err-left-2.field-0.0 c.from_residual-in_err-left-2.ensures)
    (stop_step (position c.args.pos ∷ []) (position c.args.pos ∷ []) (position c.args.pos ∷ []) c.args.work.now.errors.items c.check_use.new.work.errors.items c.expand-2.new.self.errors.items c.in_err-left-2.field-0.0 (among_same (position c.args.pos ∷ [])) (among_same (position c.args.pos ∷ [])) c.in_ok-check_use.ensures.places
    (counted_stop (position c.args.pos ∷ []) c.args.nesting c.check_use.new.work c.expand-2.new.self c.in_err-left-2.field-0.0 c.in_err-left-2.ensures))

pub returns-clause-places : goal.returns-clause-places
returns-clause-places c =
    rw c.in_ok-left-2.ensures.1.errors c.in_ok-check_use.ensures.places

pub returns-in-Some-pattern_converter-clause-among : goal.returns-in-Some-pattern_converter-clause-among
returns-in-Some-pattern_converter-clause-among c =
    let at = position c.args.pos in
    let here : Contains (pattern_positions (pattern_view c.args.whole.now)) at = rw c.requires.whole (in_head at ((name_view c.args.sym.now).at ∷ patterns_positions (pattern_views c.args.args.now))) in
    rw c.in_ok-inside.ensures (converted_places c.args.self.now c.args.tyenv.now (term_view c.in-Some-pattern_converter.by.now) at (pattern_view c.args.whole.now) here)

pub returns-clause-among : goal.returns-clause-among
returns-clause-among c =
    let made : Some (pattern_view c.in-Some-2.made) ≡ substituted (map pattern_view c.args.args.now) (pattern_view c.in-Some-template_of.template.now) = sym (ap (option_map pattern_view) c.in-Some-2.is) ∙ c.in_ok-made.ensures in
    let is_made = made ∙ ap (λ gs. substituted gs (pattern_view c.in-Some-template_of.template.now)) (sym (list_is c.args.args.now)) in
    rw c.requires.whole
    (expanded_places c.args.self.now c.args.tyenv.now (name_view c.args.sym.now) (pattern_views c.args.args.now) (position c.args.pos) (term_view c.in-Some.term.now) c.in-Some.ensures (pattern_view c.in-Some-template_of.template.now) c.in-Some-template_of.ensures
    (pattern_view c.in-Some-2.made) is_made)

pub returns-in-Some-pattern_converter-clause-deeper : goal.returns-in-Some-pattern_converter-clause-deeper
returns-in-Some-pattern_converter-clause-deeper c = rw c.in_ok-inside.ensures (c.in_ok-left.ensures.0, inl (name_at c.args.tyenv.now (term_view c.in-Some-pattern_converter.by.now) (position c.args.pos), position c.args.pos, refl))

pub returns-clause-deeper : goal.returns-clause-deeper
returns-clause-deeper c =
    let made : Some (pattern_view c.in-Some-2.made) ≡ substituted (map pattern_view c.args.args.now) (pattern_view c.in-Some-template_of.template.now) = sym (ap (option_map pattern_view) c.in-Some-2.is) ∙ c.in_ok-made.ensures in
    rw c.requires.whole (
      c.in_ok-left-2.ensures.0,
      template_expands c.args.multi c.args.self.now (standing c.args.tyenv.now c.args.work.now) c.requires.inverse (name_view c.args.sym.now) (pattern_views c.args.args.now) (position c.args.pos) c.args.expected_ty.0
          (term_view c.in-Some.term.now) c.in-Some.ensures (pattern_view c.in-Some-template_of.template.now) (pattern_view c.in-Some-2.made) c.in-Some-template_of.ensures
          (made ∙ ap (λ gs. substituted gs (pattern_view c.in-Some-template_of.template.now)) (sym (list_is c.args.args.now))),
    )

pub returns-in_default-clause-reads : goal.returns-in_default-clause-reads
returns-in_default-clause-reads c =
    rw c.requires.whole
    (taken.unknown_used c.args.multi c.args.self.now (standing c.args.tyenv.now c.args.work.now) c.requires.inverse (name_view c.args.sym.now) (pattern_views c.args.args.now) (position c.args.pos) c.args.expected_ty.0 c.args.nesting
    _ c.in_default.ensures refl (record { vars = refl; names = λ k. refl; expansions = refl }) (told_at (position c.args.pos) _ _ c.in_ok-report_name.ensures.told))

pub returns-in_err-left-clause-reads : goal.returns-in_err-left-clause-reads
returns-in_err-left-clause-reads c =
    rw (stop_is c.from_residual-in_err-left.result c.in_err-left.field-0.0 c.from_residual-in_err-left.ensures, c.requires.whole)
    (taken.conversion_stops c.args.multi c.args.self.now (standing c.args.tyenv.now c.args.work.now) c.requires.inverse (name_view c.args.sym.now) (pattern_views c.args.args.now) (position c.args.pos) c.args.expected_ty.0 c.args.nesting
    (term_view c.in-Some.term.now) c.in-Some.ensures (term_view c.in-Some-pattern_converter.by.now) c.in-Some-pattern_converter.ensures
    (standing c.args.tyenv.now c.expand.new.self) refl c.in_err-left.field-0.0 c.in_err-left.ensures)

pub returns-in-Some-pattern_converter-clause-reads : goal.returns-in-Some-pattern_converter-clause-reads
returns-in-Some-pattern_converter-clause-reads c =
    let env = c.args.self.now in
    let old = standing c.args.tyenv.now c.args.work.now in
    let new = standing c.args.tyenv.now c.expand.new.self in
    let ty : ℕ = c.args.expected_ty.0 in
    let leads = taken.conversion_leads c.args.multi env old c.requires.inverse (name_view c.args.sym.now) (pattern_views c.args.args.now) (position c.args.pos) ty c.args.nesting
    (term_view c.in-Some.term.now) c.in-Some.ensures (term_view c.in-Some-pattern_converter.by.now) c.in-Some-pattern_converter.ensures new c.in_ok-left.left refl c.in_ok-left.ensures.0 c.in_ok-left.ensures.1 in
    subst (λ (made : PatternTree). LeadsOn env old new (pattern_steps c.args.multi (pattern_view c.args.whole.now) ty c.args.nesting) (pattern_steps c.args.multi made ty c.in_ok-left.left) (λ r. r)) (sym c.in_ok-inside.ensures)
    (subst (λ (whole : PatternTree). LeadsOn env old new (pattern_steps c.args.multi whole ty c.args.nesting)
    (pattern_steps c.args.multi (inside_term c.args.tyenv.now (term_view c.in-Some-pattern_converter.by.now) (position c.args.pos) whole) ty c.in_ok-left.left) (λ r. r)) (sym c.requires.whole) leads)

pub returns-in_default-template_of-clause-reads : goal.returns-in_default-template_of-clause-reads
returns-in_default-template_of-clause-reads c =
    rw c.requires.whole
    (taken.parts_lead c.args.multi c.args.self.now (standing c.args.tyenv.now c.args.work.now) c.requires.inverse (name_view c.args.sym.now) (pattern_views c.args.args.now) (position c.args.pos) c.args.expected_ty.0 c.args.nesting
    (term_view c.in-Some.term.now) c.in-Some.ensures c.in_default-pattern_converter.ensures (standing c.args.tyenv.now c.check_use.new.work) _ (sym (list_length c.args.args.now)) refl c.check_use.ensures.remains c.in_ok-check_use.ensures.exact
    c.in_default-template_of.ensures _ refl (record { vars = refl; names = λ k. refl; expansions = refl }) c.in_ok-check_extractor.ensures.exact)

pub returns-in_default-2-clause-reads : goal.returns-in_default-2-clause-reads
returns-in_default-2-clause-reads c =
    let missing : ◌≡◌ {A = Option PatternTree} None (substituted (map pattern_view c.args.args.now) (pattern_view c.in-Some-template_of.template.now)) = sym (ap (option_map pattern_view) c.in_default-2.is) ∙ c.in_ok-made.ensures in
    rw c.requires.whole
    (taken.nothing_used c.args.multi c.args.self.now (standing c.args.tyenv.now c.args.work.now) c.requires.inverse (name_view c.args.sym.now) (pattern_views c.args.args.now) (position c.args.pos) c.args.expected_ty.0 c.args.nesting
    (term_view c.in-Some.term.now) c.in-Some.ensures c.in_default-pattern_converter.ensures (standing c.args.tyenv.now c.check_use.new.work) _ (sym (list_length c.args.args.now)) refl c.check_use.ensures.remains c.in_ok-check_use.ensures.exact
    (pattern_view c.in-Some-template_of.template.now) c.in-Some-template_of.ensures (missing ∙ ap (λ gs. substituted gs (pattern_view c.in-Some-template_of.template.now)) (sym (list_is c.args.args.now))))

pub returns-in_err-left-2-clause-reads : goal.returns-in_err-left-2-clause-reads
returns-in_err-left-2-clause-reads c =
    let made : Some (pattern_view c.in-Some-2.made) ≡ substituted (map pattern_view c.args.args.now) (pattern_view c.in-Some-template_of.template.now) = sym (ap (option_map pattern_view) c.in-Some-2.is) ∙ c.in_ok-made.ensures in
    rw (stop_is c.from_residual-in_err-left-2.result c.in_err-left-2.field-0.0 c.from_residual-in_err-left-2.ensures, c.requires.whole)
    (taken.template_stops c.args.multi c.args.self.now (standing c.args.tyenv.now c.args.work.now) c.requires.inverse (name_view c.args.sym.now) (pattern_views c.args.args.now) (position c.args.pos) c.args.expected_ty.0 c.args.nesting
    (term_view c.in-Some.term.now) c.in-Some.ensures c.in_default-pattern_converter.ensures (standing c.args.tyenv.now c.check_use.new.work) _ (sym (list_length c.args.args.now)) refl c.check_use.ensures.remains c.in_ok-check_use.ensures.exact
    (pattern_view c.in-Some-template_of.template.now) c.in-Some-template_of.ensures (pattern_view c.in-Some-2.made) (made ∙ ap (λ gs. substituted gs (pattern_view c.in-Some-template_of.template.now)) (sym (list_is c.args.args.now)))
    (standing c.args.tyenv.now c.expand-2.new.self) refl c.in_err-left-2.field-0.0 c.in_err-left-2.ensures)

pub returns-clause-reads : goal.returns-clause-reads
returns-clause-reads c =
    let made : Some (pattern_view c.in-Some-2.made) ≡ substituted (map pattern_view c.args.args.now) (pattern_view c.in-Some-template_of.template.now) = sym (ap (option_map pattern_view) c.in-Some-2.is) ∙ c.in_ok-made.ensures in
    rw c.requires.whole
    (taken.template_leads c.args.multi c.args.self.now (standing c.args.tyenv.now c.args.work.now) c.requires.inverse (name_view c.args.sym.now) (pattern_views c.args.args.now) (position c.args.pos) c.args.expected_ty.0 c.args.nesting
    (term_view c.in-Some.term.now) c.in-Some.ensures c.in_default-pattern_converter.ensures (standing c.args.tyenv.now c.check_use.new.work) _ (sym (list_length c.args.args.now)) refl c.check_use.ensures.remains c.in_ok-check_use.ensures.exact
    (pattern_view c.in-Some-template_of.template.now) c.in-Some-template_of.ensures (pattern_view c.in-Some-2.made) (made ∙ ap (λ gs. substituted gs (pattern_view c.in-Some-template_of.template.now)) (sym (list_is c.args.args.now)))
    (standing c.args.tyenv.now c.expand-2.new.self) c.in_ok-left-2.left refl c.in_ok-left-2.ensures.0 c.in_ok-left-2.ensures.1)
