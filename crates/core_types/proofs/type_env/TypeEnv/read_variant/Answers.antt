use Rattle.std.proofs.Common.{◌≡◌, string_bytes, refl, ap, ◌∙◌}
use Rattle.model.specs.lists.Names.{number}
use Rattle.model.specs.lists.TypeTable.{full_name, all_type_names}
use Rattle.core_types.specs.Envs.{names_of}
use Rattle.core_types.proofs.NamesMet.{meet_one, meet_more}
use Rattle.core_types.proofs.VariantSteps.{variant_right, seen_twice, sees_both, both_met}
use Rattle.core_types.proofs.NotedPositions.{noted_there, variant_fields_among}
use Rattle.core_types.proofs.ToldErrors.{noted_among}
use Rattle.core_syntax.specs.SyntaxViews.{variant_view}
use Rattle.core_types.proofs.type_env.TypeEnv.read_variant.Goals as goal

pub returns-then-not-branch-clause-reads : goal.returns-then-not-branch-clause-reads
returns-then-not-branch-clause-reads c =
    let ty = string_bytes c.args.ty.now.0 in
    let same : string_bytes c.in_ok-full_name.full_name.0 ≡ full_name ty (string_bytes c.args.variant.now.name.0) = ap (λ n. n.text) c.in_ok-full_name.ensures in
    let f = c.in_ok-fullname.ensures in
    let n = c.in_ok-name.ensures in
    let one = meet_one _ _ c.args.self.now c.intern_mut.new.self same f.names f.types f.type_map f.const_types f.errors in
    let two = meet_one _ _ c.intern_mut.new.self c.intern_mut-2.new.self refl n.names n.types n.type_map n.const_types n.errors in
    λ defs earlier s h. (
      record { met = _; meets = both_met ty c.args.variant.now _ _ _ one two; notes = noted_there _ _ _ _ c.in_ok-report_name.ensures.told },
      λ none right. seen_twice ty c.args.variant.now _ _ _ one two c.args.seen.now earlier h c.in_ok-name.name n.number c.in_ok-insert.field-0 c.in_ok-insert.ensures.new c.if-not-branch.true none,
    )

pub returns-in_default-clause-reads : goal.returns-in_default-clause-reads
returns-in_default-clause-reads c =
    let ty = string_bytes c.args.ty.now.0 in
    let same : string_bytes c.in_ok-full_name.full_name.0 ≡ full_name ty (string_bytes c.args.variant.now.name.0) = ap (λ n. n.text) c.in_ok-full_name.ensures in
    let f = c.in_ok-fullname.ensures in
    let n = c.in_ok-name.ensures in
    let one = meet_one _ _ c.args.self.now c.intern_mut.new.self same f.names f.types f.type_map f.const_types f.errors in
    let two = meet_one _ _ c.intern_mut.new.self c.intern_mut-2.new.self refl n.names n.types n.type_map n.const_types n.errors in
    λ defs earlier s h.
    let r = rw c.in_default.is at c.in_ok-fields.ensures.reads defs (sees_both ty c.args.variant.now _ _ _ one two (all_type_names defs) s) in (
      record {
        met = _;
        meets = meet_more _ r.0.met _ _ _ (both_met ty c.args.variant.now _ _ _ one two) r.0.meets;
        notes = noted_among 1 _ _ _ _ (variant_fields_among (variant_view c.args.variant.now)) r.0.notes;
      },
      λ none. r.1,
    )

pub returns-clause-reads : goal.returns-clause-reads
returns-clause-reads c =
    let ty = string_bytes c.args.ty.now.0 in
    let same : string_bytes c.in_ok-full_name.full_name.0 ≡ full_name ty (string_bytes c.args.variant.now.name.0) = ap (λ n. n.text) c.in_ok-full_name.ensures in
    let f = c.in_ok-fullname.ensures in
    let n = c.in_ok-name.ensures in
    let one = meet_one _ _ c.args.self.now c.intern_mut.new.self same f.names f.types f.type_map f.const_types f.errors in
    let two = meet_one _ _ c.intern_mut.new.self c.intern_mut-2.new.self refl n.names n.types n.type_map n.const_types n.errors in
    let full : c.in_ok-fullname.fullname.0 ≡ number (names_of c.args.self.now) (full_name ty (string_bytes c.args.variant.now.name.0)) = f.number ∙ ap (number (names_of c.args.self.now)) same in
    λ defs earlier s h.
    let r = rw c.in-Some.is at c.in_ok-fields.ensures.reads defs (sees_both ty c.args.variant.now _ _ _ one two (all_type_names defs) s) in (
      r.0,
      variant_right ty c.args.variant.now _ _ _ one two c.args.seen.now earlier h c.in_ok-name.name n.number defs c.read_fields.new.self c.in_ok-fullname.fullname full c.args.id c.in-Some.fields r.2 n.inverse c.insert.new.self c.in_ok-insert.ensures.has c.in_ok-insert.field-0 c.in_ok-insert.ensures.new c.if-not-branch.false r.1 r.3,
    )
