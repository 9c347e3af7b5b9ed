use Rattle.std.proofs.Common.{◌++◌, slice_get, sym, ap, ◌∙◌}
use Rattle.std.specs.Prelude.{codes, option_map, string_bytes}
use Rattle.std.proofs.lemmas.List.{append_assoc}
use Rattle.std.proofs.lemmas.Result.{on_ok_weaker}
use Rattle.core_types.specs.declared.ids.Sym.{Sym}
use Rattle.rust_text.specs.ProgramNames.{function_text, term_part}
use Rattle.rust_text.specs.SettingViews.{setting_of}
use Rattle.rust_text.proofs.names.Names.push_function_of.Goals as goal

pub returns-in_ok-push_str-in-None : goal.returns-in_ok-push_str-in-None
returns-in_ok-push_str-in-None c =
    let s = setting_of c.args.self in
    let old = string_bytes c.args.out.now in
    let entry = slice_get s.terms c.args.term.0 in
    on_ok_weaker c.push_term.result (λ w. w ∙ ap (λ t. t ++ term_part s.names entry) c.in_ok-push_str-in-None.ensures.bytes
    ∙ append_assoc old (codes "constructor_") (term_part s.names entry)
    ∙ ap (λ n. old ++ function_text s.names (option_map (λ (x : Sym). x.0) n) entry) (sym c.in-None.is)) c.push_term.ensures
