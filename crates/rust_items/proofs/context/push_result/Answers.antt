use Rattle.std.proofs.Common.{◌∙◌, ◌++◌, map, ap, sym}
use Rattle.std.specs.Prelude.{string_bytes}
use Rattle.std.proofs.lemmas.Result.{on_ok_weaker}
use Rattle.core_terms.specs.SignatureViews.{giving_view}
use Rattle.core_types.specs.declared.ids.TypeId.{TypeId}
use Rattle.rust_items.specs.ItemViews.{items_by}
use Rattle.rust_items.specs.WrittenItems.{given_written}
use Rattle.rust_items.proofs.context.push_result.Goals as goal

pub returns-in-Plain : goal.returns-in-Plain
returns-in-Plain c =
    on_ok_weaker c.push_one.result
    (λ h. h ∙ ap (λ k. string_bytes c.args.out.now ++ given_written (items_by c.args.program) c.args.name.now (map (λ (t : TypeId). t.0) c.args.tys.now) (giving_view k)) (sym c.in-Plain.is)) c.push_one.ensures

pub returns-in-Option : goal.returns-in-Option
returns-in-Option c =
    on_ok_weaker c.push_option.result
    (λ h. h ∙ ap (λ k. string_bytes c.args.out.now ++ given_written (items_by c.args.program) c.args.name.now (map (λ (t : TypeId). t.0) c.args.tys.now) (giving_view k)) (sym c.in-Option.is)) c.push_option.ensures

pub returns-in-Iterator : goal.returns-in-Iterator
returns-in-Iterator c =
    on_ok_weaker c.push_many.result
    (λ h. h ∙ ap (λ k. string_bytes c.args.out.now ++ given_written (items_by c.args.program) c.args.name.now (map (λ (t : TypeId). t.0) c.args.tys.now) (giving_view k)) (sym c.in-Iterator.is)) c.push_many.ensures
