use Rattle.std.proofs.Common.{rules, ◌≡◌, slice_get, refl}
use mir.Syntax.{w128}
use mir.Val.{SFits}
use Rattle.std.proofs.lemmas.Int.{to_z-of_z}
use Rattle.core_syntax.specs.SyntaxViews.{position}
use Rattle.model.specs.lists.Ranges.{reduced}
use Rattle.core_types.specs.TypeViews.{type_views}
use Rattle.core_rules.specs.ShownSettings.{standing}
use Rattle.core_rules.proofs.term_env.TermEnv.translate_int.Goals as goal
use Rattle.core_rules.proofs.PatternsTaken.{integer_taken}

pub returns-clause-reads : goal.returns-clause-reads
returns-clause-reads c =
    let fits : SFits w128 c.literal_number-number.result = search rules in
    let stands : c.literal_number-number.result ≡ reduced (slice_get (type_views c.args.tyenv.now.types.items) c.args.expected_ty.0) c.args.val = search rules in
    rw (to_z-of_z w128 c.literal_number-number.result fits)
    (integer_taken c.args.self.now (standing c.args.tyenv.now c.args.work.now) _ refl (position c.args.pos) c.args.expected_ty.0 (record { vars = refl; names = λ k. refl; expansions = refl })
    c.args.val c.literal_number-number.result stands c.in_ok-check_integer.ensures.exact)
