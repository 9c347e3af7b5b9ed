use Rattle.std.proofs.Common.{◌≡◌, ◌&&◌, true, false, map, string_bytes, refl, sym, ap, ◌∙◌}
use Rattle.model.specs.lists.Syntax.{enum_value}
use Rattle.model.specs.lists.Names.{number}
use Rattle.model.specs.lists.Tables.{enum_type}
use Rattle.core_syntax.specs.SyntaxViews as views
use Rattle.core_types.specs.Envs.{names_of}
use Rattle.core_types.specs.TypeViews.{variant_view}
use Rattle.core_types.specs.VariantReading.{of_value}
use Rattle.core_types.proofs.NamesMet.{ends_here, ends_inside}
use Rattle.core_types.proofs.RightValues.{number_later, enum_right, two_marks}
use Rattle.core_types.proofs.NotedPositions.{noted_there, value_among}
use Rattle.core_types.proofs.type_env.TypeEnv.read_enum.Goals as goal

pub returns-clause-reads : goal.returns-clause-reads
returns-clause-reads c =
    let one : false ≡ (c.args.ty.now.is_extern && c.args.ty.now.is_nodebug) = sym c.if-branch.false ∙ c.in_ok-has_both_marks.ensures.both in
    let none = rw c.if-branch.false at c.in_ok-has_both_marks.ensures.noted in
    λ defs at s.
    let r = rw c.in-Some.is at c.in_ok-variants.ensures.reads defs s in
    let name = number_later c.args.name.0 (string_bytes c.args.ty.now.name.0) _ c.args.self.now c.read_variants.new.self r.1.meets c.requires.name in (
      r.0 ∙ none,
      enum_right defs (views.type_view c.args.ty.now) at (map views.variant_view c.args.variants.now) one r.1.distinct r.1.fields,
      r.1.meets,
      ap (λ k. enum_type k c.args.id.0 c.args.ty.now.is_extern c.args.ty.now.is_nodebug (map variant_view c.in-Some.variants.items) (views.position c.args.ty.now.pos)) name
          ∙ ap (λ l. enum_type (number (names_of c.read_variants.new.self) (string_bytes c.args.ty.now.name.0)) c.args.id.0 c.args.ty.now.is_extern c.args.ty.now.is_nodebug l (views.position c.args.ty.now.pos)) r.1.entries,
    )

pub returns-then-branch-clause-reads : goal.returns-then-branch-clause-reads
returns-then-branch-clause-reads c =
    let two : true ≡ (c.args.ty.now.is_extern && c.args.ty.now.is_nodebug) = sym c.if-branch.true ∙ c.in_ok-has_both_marks.ensures.both in
    let noted = rw c.if-branch.true at c.in_ok-has_both_marks.ensures.noted in
    λ defs at s. (ends_here _ _ _ _ (noted_there _ _ _ _ noted), two_marks defs (views.type_view c.args.ty.now) at (enum_value (map views.variant_view c.args.variants.now) at) two)

pub returns-in_default-clause-reads : goal.returns-in_default-clause-reads
returns-in_default-clause-reads c =
    let none = rw c.if-branch.false at c.in_ok-has_both_marks.ensures.noted in
    λ defs at s.
    let r = rw c.in_default.is at c.in_ok-variants.ensures.reads defs s in
    (ends_inside _ _ _ _ _ _ _ none (value_among (of_value (views.type_view c.args.ty.now) (enum_value (map views.variant_view c.args.variants.now) at)) at _ refl) r.0, λ right. r.1 right.variants right.fields)
