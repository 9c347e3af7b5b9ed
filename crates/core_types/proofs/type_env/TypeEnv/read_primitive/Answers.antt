use Rattle.std.proofs.Common.{string_bytes, refl, sym, ap, ◌∙◌}
use Rattle.std.proofs.lemmas.Bool.{false≢true}
use Rattle.model.specs.lists.Tables.{primitive_type}
use Rattle.core_syntax.specs.SyntaxViews.{name_view, type_view, position}
use Rattle.core_types.proofs.NamesMet.{meet_one, ends_here}
use Rattle.core_types.proofs.NotedPositions.{noted_there}
use Rattle.core_types.proofs.RightValues.{named_now, primitive_right}
use Rattle.core_types.proofs.type_env.TypeEnv.read_primitive.Goals as goal

pub returns-clause-reads : goal.returns-clause-reads
returns-clause-reads c =
    let n = c.in_ok-name.ensures in
    let named = named_now c.in_ok-name.name.0 (string_bytes c.args.inner.now.0) c.args.self.now c.intern_mut.new.self n.names n.number in
    λ defs at. (
      refl,
      primitive_right defs (type_view c.args.ty.now) at (name_view c.args.inner.now) c.if-ty.false c.if-ty-2.false,
      meet_one _ _ c.args.self.now c.intern_mut.new.self refl n.names n.types n.type_map n.const_types n.errors,
      ap (λ k. primitive_type c.args.id.0 k (position c.args.ty.now.pos)) named.numbered,
    )

pub returns-then-ty-clause-reads : goal.returns-then-ty-clause-reads
returns-then-ty-clause-reads c =
    λ defs at. (ends_here _ _ _ _ (noted_there _ _ _ _ c.in_ok-report_name.ensures.told), λ right. false≢true (sym (right.unmarked refl).1 ∙ c.if-ty.true))

pub returns-then-ty-2-clause-reads : goal.returns-then-ty-2-clause-reads
returns-then-ty-2-clause-reads c =
    λ defs at. (ends_here _ _ _ _ (noted_there _ _ _ _ c.in_ok-report_name-2.ensures.told), λ right. false≢true (sym (right.unmarked refl).0 ∙ c.if-ty-2.true))
