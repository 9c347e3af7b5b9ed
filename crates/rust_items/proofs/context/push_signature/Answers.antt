use Rattle.std.proofs.Common.{◌∙◌, ◌++◌, map, ap}
use Rattle.std.specs.Prelude.{string_bytes}
use Rattle.std.proofs.lemmas.Result.{on_ok_weaker}
use Rattle.core_terms.specs.SignatureViews.{giving_view}
use Rattle.core_types.specs.declared.ids.TypeId.{TypeId}
use Rattle.rust_items.specs.ItemViews.{items_by}
use Rattle.rust_items.specs.WrittenItems.{lines_written}
use Rattle.rust_items.proofs.context.push_signature.Goals as goal

pub returns : goal.returns
returns c =
    let s = items_by c.args.program in let sig = c.args.sig.now in let old = string_bytes c.args.out.now in let gives = giving_view sig.ret_kind in
    on_ok_weaker c.push_lines.result
    (λ h.
    h ∙ ap (λ n. old ++ lines_written s n (map (λ (t : TypeId). t.0) c.deref-2.result.now) (map (λ (t : TypeId). t.0) c.deref-3.result.now) gives) c.deref.ensures
    ∙ ap (λ ts. old ++ lines_written s (string_bytes sig.func_name) (map (λ (t : TypeId). t.0) ts) (map (λ (t : TypeId). t.0) c.deref-3.result.now) gives) c.deref-2.ensures.value
    ∙ ap (λ ts. old ++ lines_written s (string_bytes sig.func_name) (map (λ (t : TypeId). t.0) sig.param_tys.items) (map (λ (t : TypeId). t.0) ts) gives) c.deref-3.ensures.value)
    c.push_lines.ensures
