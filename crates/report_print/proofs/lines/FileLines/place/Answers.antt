use Rattle.std.proofs.Common.{◌≡◌, ◌≤◌, length, None, Some, slice_get, sym, ap, subst, ◌∙◌}
use Rattle.std.specs.Prelude.{option_map}
use Rattle.std.proofs.lemmas.Option.{slice_get-get_or, slice_get-map, slice_get_past}
use Rattle.report_print.specs.PlaceTexts.{shown_column, shown_line, texts_of}
use Rattle.report_print.proofs.lines.FileLines.place.Goals as goal

pub returns-in-Some : goal.returns-in-Some
returns-in-Some c =
    let s = c.args.self.now in
    let found = c.in-Some.ensures.lookup in
    let got : slice_get s.tables.items c.args.pos.file ≡ Some c.in-Some.table.now =
    ap (λ l. slice_get l c.args.pos.file) (sym c.deref.ensures.value) ∙ slice_get-get_or c.deref.result.now c.args.pos.file c.in-Some.table.now found.3.0 ∙ ap Some (sym found.1) in
    let there : slice_get (texts_of s.files.now) c.args.pos.file ≡ Some c.in-Some.table.now.text.now =
    ap (λ l. slice_get l c.args.pos.file) (sym s.tabled) ∙ slice_get-map (λ t. t.text.now) s.tables.items c.args.pos.file ∙ ap (option_map (λ t. t.text.now)) got in
    record {
      line = c.place_in.ensures.line ∙ ap (λ o. shown_line o c.args.pos.offset) (sym there);
      column = c.place_in.ensures.column ∙ ap (λ o. shown_column o c.args.pos.offset) (sym there);
    }

pub returns-in-None : goal.returns-in-None
returns-in-None c =
    let s = c.args.self.now in
    let past : length s.tables.items ≤ c.args.pos.file = subst (λ l. length l ≤ c.args.pos.file) c.deref.ensures.value c.in-None.ensures.lookup.3 in
    let there : slice_get (texts_of s.files.now) c.args.pos.file ≡ None =
    ap (λ l. slice_get l c.args.pos.file) (sym s.tabled) ∙ slice_get-map (λ t. t.text.now) s.tables.items c.args.pos.file ∙ ap (option_map (λ t. t.text.now)) (slice_get_past s.tables.items c.args.pos.file past) in
    record {
      line = ap (λ o. shown_line o c.args.pos.offset) (sym there);
      column = ap (λ o. shown_column o c.args.pos.offset) (sym there);
    }
