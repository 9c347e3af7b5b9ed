use Rattle.std.proofs.Common.{◌≡◌, ◌&&◌, true, false, [], string_bytes, refl, sym, ap, ◌∙◌}
use Rattle.std.proofs.lemmas.List.Elements.{All-head}
use Rattle.model.specs.lists.Syntax.{struct_value}
use Rattle.model.specs.lists.Names.{number}
use Rattle.model.specs.lists.Tables.{struct_type}
use Rattle.core_syntax.specs.SyntaxViews as views
use Rattle.core_types.specs.Envs.{names_of}
use Rattle.core_types.specs.TypeViews.{fields_view}
use Rattle.core_types.specs.Reading.{AreRightFields}
use Rattle.core_types.specs.VariantReading.{of_value}
use Rattle.core_types.proofs.NamesMet.{ends_here, ends_inside}
use Rattle.core_types.proofs.RightValues.{number_later, struct_right, two_marks}
use Rattle.core_types.proofs.NotedPositions.{noted_there, value_among}
use Rattle.core_types.proofs.type_env.TypeEnv.read_struct.Goals as goal

pub returns-clause-reads : goal.returns-clause-reads
returns-clause-reads c =
    let one : false ≡ (c.args.ty.now.is_extern && c.args.ty.now.is_nodebug) = sym c.if-branch.false ∙ c.in_ok-has_both_marks.ensures.both in
    let none = rw c.if-branch.false at c.in_ok-has_both_marks.ensures.noted in
    λ defs at s.
    let r = rw c.in-Some.is at c.in_ok-fields.ensures.reads defs s in
    let name = number_later c.args.name.0 (string_bytes c.args.ty.now.name.0) _ c.args.self.now c.read_fields.new.self r.2 c.requires.name in (
      r.0 ∙ none,
      struct_right defs (views.type_view c.args.ty.now) at (views.fields_view c.args.fields.now) one r.1,
      r.2,
      ap (λ k. struct_type k c.args.id.0 c.args.ty.now.is_extern c.args.ty.now.is_nodebug (fields_view c.in-Some.fields) (views.position c.args.ty.now.pos)) name
          ∙ ap (λ f. struct_type (number (names_of c.read_fields.new.self) (string_bytes c.args.ty.now.name.0)) c.args.id.0 c.args.ty.now.is_extern c.args.ty.now.is_nodebug f (views.position c.args.ty.now.pos)) r.3,
    )

pub returns-then-branch-clause-reads : goal.returns-then-branch-clause-reads
returns-then-branch-clause-reads c =
    let two : true ≡ (c.args.ty.now.is_extern && c.args.ty.now.is_nodebug) = sym c.if-branch.true ∙ c.in_ok-has_both_marks.ensures.both in
    let noted = rw c.if-branch.true at c.in_ok-has_both_marks.ensures.noted in
    λ defs at s. (ends_here _ _ _ _ (noted_there _ _ _ _ noted), two_marks defs (views.type_view c.args.ty.now) at (struct_value (views.fields_view c.args.fields.now) at) two)

pub returns-in_default-clause-reads : goal.returns-in_default-clause-reads
returns-in_default-clause-reads c =
    let none = rw c.if-branch.false at c.in_ok-has_both_marks.ensures.noted in
    let fields = views.fields_view c.args.fields.now in
    λ defs at s.
    let r = rw c.in_default.is at c.in_ok-fields.ensures.reads defs s in
    (ends_inside _ _ _ _ _ _ _ none (value_among (of_value (views.type_view c.args.ty.now) (struct_value fields at)) at _ refl) r.0, λ right. r.1 (All-head (AreRightFields defs) fields [] right.fields))
