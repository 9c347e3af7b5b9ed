use Rattle.std.proofs.Common.{map, Some, refl, [], ◌∷◌}
use Rattle.core_syntax.specs.SyntaxViews as S
use Rattle.core_typed.specs.PatternViews.{pattern_views, pattern_parts}
use Rattle.core_rules.specs.PatternTaking.{parts_steps}
use Rattle.core_rules.specs.ShownSettings.{standing}
use Rattle.core_syntax.specs.Positions.{patterns_positions}
use Rattle.core_syntax.proofs.Positioned.{among_first, among_rest}
use Rattle.core_rules.specs.RulePositions.{with_templates}
use Rattle.core_rules.proofs.ErrorPositions.{among_here, among_with, stays_step}
use Rattle.core_rules.specs.RuleTaking.{root_steps}
use Rattle.core_rules.proofs.SidesTaken.{root_leads}
use Rattle.core_rules.proofs.Taken.{expansion_done}
use Rattle.core_rules.proofs.term_env.TermEnv.translate_root.Goals as goal

pub returns-clause-places : goal.returns-clause-places
returns-clause-places c =
    let env = c.args.self.now in
    let at = S.position c.args.pos in
    let args = patterns_positions (S.pattern_views c.args.args.now) in
    stays_step (at ∷ []) (with_templates env args) (with_templates env (at ∷ args)) c.args.work.now.errors.items c.check_count.new.errors.items c.translate_args.new.work.errors.items c.translate_args.result (among_here env (at ∷ []) (at ∷ args) (among_first at args)) (among_with env args (at ∷ args) (among_rest at args))
    c.in_ok-check_count.ensures.places c.translate_args.ensures.places

pub returns-clause-reads : goal.returns-clause-reads
returns-clause-reads c =
    let name = S.name_view c.args.sym.now in
    let at = S.position c.args.pos in
    expansion_done c.args.self.now (standing c.args.tyenv.now c.args.work.now) (standing c.args.tyenv.now _) (standing c.translate_args.new.tyenv c.translate_args.new.work) refl
    (root_steps c.args.multi (S.pattern_views c.args.args.now) (map (λ t. t.0) c.args.tys.now) name at c.args.nesting) (parts_steps c.args.multi (S.pattern_views c.args.args.now) (map (λ t. t.0) c.args.tys.now) c.args.nesting)
    (λ v. Some (pattern_parts (pattern_views v.items)))
    (root_leads c.args.self.now (standing c.args.tyenv.now c.args.work.now) (standing c.args.tyenv.now _) c.args.multi c.args.args.now c.args.tys.now name at c.args.nesting
    refl (record { vars = refl; names = λ k. refl; expansions = refl }) c.in_ok-check_count.ensures.exact)
    c.translate_args.result c.translate_args.ensures.reads
