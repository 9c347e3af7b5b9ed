use Rattle.std.proofs.Common.{◌≡◌, true, false, refl, sym, inl, inr, rules}
use Rattle.core_types.specs.FieldReading.{was_seen}
use Rattle.core_types.proofs.NotedPositions.{noted_there, field_type_among}
use Rattle.core_types.proofs.ToldErrors.{noted_among}
use Rattle.core_syntax.specs.SyntaxViews.{field_view}
use Rattle.core_types.proofs.type_env.TypeEnv.read_struct_field.Goals as goal

pub returns-then-not-branch-clause-reads : goal.returns-then-not-branch-clause-reads
returns-then-not-branch-clause-reads c =
    let before : was_seen c.args.seen.now c.in_ok-name.name.0 ≡ true = search rules in
    (noted_there _ _ _ _ c.in_ok-report_duplicate_field.ensures, inl (rw (← c.in_ok-name.ensures.number) before))

pub returns-in_default-clause-reads : goal.returns-in_default-clause-reads
returns-in_default-clause-reads c =
    (noted_among 1 _ _ _ _ (field_type_among (field_view c.args.field.now)) c.in_ok-report_unknown_type.ensures, inr (search rules))

pub returns-clause-reads : goal.returns-clause-reads
returns-clause-reads c =
    let new : was_seen c.args.seen.now c.in_ok-name.name.0 ≡ false = search rules in (
      refl,
      record {
        name = c.in_ok-name.ensures.number;
        id_is = refl;
        ty = sym c.in-Some.ensures;
        fresh = rw (← c.in_ok-name.ensures.number) new;
        more = λ k. rw (← c.in_ok-name.ensures.number) (c.in_ok-insert.ensures.has (record { 0 = k }));
      },
    )
