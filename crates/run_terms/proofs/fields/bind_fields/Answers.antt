use Rattle.std.proofs.Common.{◌≡◌, ◌≤◌, ◌∙◌, Some, length, refl, rules, slice_get, subst, sym, ap}
use Rattle.std.proofs.lemmas.Option.{slice_get-get_or}
use Rattle.run_terms.specs.RunViews.{env_view}
use Rattle.run_terms.proofs.BindSteps.{begins_here, begins_then}
use Rattle.run_terms.proofs.FieldSteps.{field_more, field_missing}
use Rattle.run_terms.proofs.fields.bind_fields.Goals as goal

pub loop-field-init : goal.loop-field-init
loop-field-init c = record { place = refl; bound = refl; kept = begins_here c.args.env.now.items }

pub loop-field-preserved : goal.loop-field-preserved
loop-field-preserved c =
    let cs = c.args.contents.now in
    let found = c.in-Some.ensures.lookup in
    let x = c.in-Some.content.now in
    let at : slice_get cs c.loop-field.place ≡ Some x = slice_get-get_or cs c.loop-field.place x found.3.0 ∙ ap Some (sym found.1) in
    record {
      place = search rules;
      bound = field_more c.args.fields.now cs c.field-item.result x c.loop-field.field-index (env_view c.loop-field.env.items) (env_view c.bind_field.new.env.items) _ (search rules) c.field-item.is
          (subst (λ n. slice_get cs n ≡ Some x) c.loop-field.invariant.place at) c.in_ok-bind_field-in-Some.ensures.bound c.loop-field.invariant.bound;
      kept = begins_then c.args.env.now.items c.loop-field.env.items c.bind_field.new.env.items c.loop-field.invariant.kept c.in_ok-bind_field-in-Some.ensures.kept;
    }

pub returns-in-None : goal.returns-in-None
returns-in-None c =
    let cs = c.args.contents.now in
    let past : length cs ≤ c.loop-field.field-index = subst (λ n. length cs ≤ n) c.loop-field.invariant.place c.in-None.ensures.lookup.3 in
    record { bound = field_missing c.args.fields.now cs c.field-item.result c.loop-field.field-index (env_view c.loop-field.env.items) _ (search rules) past c.loop-field.invariant.bound; kept = c.loop-field.invariant.kept }
