use Rattle.std.proofs.Common.{◌∙◌, ◌++◌, map, ap, sym}
use Rattle.std.specs.Prelude.{string_bytes}
use Rattle.std.proofs.lemmas.Result.{on_ok_weaker}
use Rattle.cranelift_isle.specs.SyntaxViews.{position}
use Rattle.cranelift_isle.specs.TypeViews.{type_view, variant_view}
use Rattle.rust_items.specs.ItemViews.{items_by}
use Rattle.rust_items.specs.WrittenItems.{declaration_written, enum_written, unless}
use Rattle.rust_items.proofs.types.push_declaration.Goals as goal

pub returns-in-Enum : goal.returns-in-Enum
returns-in-Enum c =
    let s = items_by c.args.program in let old = string_bytes c.args.out.now in
    on_ok_weaker c.push_enum.result
    (λ h.
    h ∙ ap (λ vs. old ++ unless c.in-Enum.is_extern (enum_written s c.in-Enum.name.0 c.in-Enum.is_nodebug (map variant_view vs) (position c.in-Enum.pos))) c.deref.ensures.value
    ∙ ap (λ t. old ++ declaration_written s (type_view t)) (sym c.in-Enum.is))
    c.push_enum.ensures

pub returns-in-Struct : goal.returns-in-Struct
returns-in-Struct c =
    on_ok_weaker c.push_open_struct.result
    (λ h. h ∙ ap (λ t. string_bytes c.args.out.now ++ declaration_written (items_by c.args.program) (type_view t)) (sym c.in-Struct.is)) c.push_open_struct.ensures
