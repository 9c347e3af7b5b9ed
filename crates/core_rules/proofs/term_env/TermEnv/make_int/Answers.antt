use Rattle.std.proofs.Common.{rules, ◌≡◌, slice_get, refl, ap}
use mir.Syntax.{w128}
use mir.Val.{SFits}
use Rattle.std.proofs.lemmas.Int.{to_z-of_z}
use Rattle.core_syntax.specs.SyntaxViews.{position}
use Rattle.model.specs.lists.Ranges.{reduced}
use Rattle.core_types.specs.TypeViews.{type_views}
use Rattle.core_rules.specs.ExprReadings.{expected}
use Rattle.core_rules.specs.ShownSettings.{standing}
use Rattle.core_typed.proofs.NotedErrors.{told_at}
use Rattle.core_rules.proofs.ExprsTaken.{untyped_made, integer_made}
use Rattle.core_rules.proofs.term_env.TermEnv.make_int.Goals as goal

pub returns-in_default-clause-reads : goal.returns-in_default-clause-reads
returns-in_default-clause-reads c flags d =
    untyped_made c.args.self.now (standing c.args.tyenv.now c.args.work.now) _ (position c.args.pos) flags (expected c.args.expected_ty) d (record { vars = refl; names = λ k. refl; expansions = refl }) refl
    c.args.val (ap expected c.in_default.is) (told_at (position c.args.pos) _ _ c.in_ok-report.ensures.told)

pub returns-clause-reads : goal.returns-clause-reads
returns-clause-reads c flags d =
    let fits : SFits w128 c.literal_number-number.result = search rules in
    let stands : c.literal_number-number.result ≡ reduced (slice_get (type_views c.args.tyenv.now.types.items) c.in-Some.ty.0) c.args.val = search rules in
    rw (to_z-of_z w128 c.literal_number-number.result fits)
    (integer_made c.args.self.now (standing c.args.tyenv.now c.args.work.now) _ (position c.args.pos) flags (expected c.args.expected_ty) d (record { vars = refl; names = λ k. refl; expansions = refl }) refl
    c.args.val c.literal_number-number.result c.in-Some.ty.0 (ap expected c.in-Some.is) stands c.in_ok-check_integer.ensures.exact)
