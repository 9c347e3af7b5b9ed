use Rattle.std.proofs.Common.{◌≡◌, ℕ, eqb, length, subst, sym, ◌∙◌, rules}
use Rattle.std.proofs.lemmas.List.{length-map}
use Rattle.core_typed.specs.Elaborating.{place_unless, NotesEachAt}
use Rattle.core_rules.proofs.typing.pattern_uses.check_use.Goals as goal
use Rattle.core_syntax.specs.SyntaxViews.{position}
use Rattle.core_typed.proofs.NotedErrors.{both_at}

pub returns-clause-exact : goal.returns-clause-exact
returns-clause-exact c =
    let count : c.len.result ≡ length c.args.term.now.arg_tys.items = search rules in
    both_at _ _ _ _ _ c.in_ok-check_same.ensures.exact
    (subst (λ (n : ℕ). NotesEachAt (place_unless (eqb c.args.args n) (position c.args.pos)) c.check_same.new.errors.items c.check_count.new.errors.items) (count ∙ sym (length-map c.args.term.now.arg_tys.items (λ ty. ty.0)))
    c.in_ok-check_count.ensures.exact)
