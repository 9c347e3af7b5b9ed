use Rattle.std.proofs.Common.{◌≡◌, ◌≤◌, length, Some, slice_get, map, sym, ap, subst, ◌∙◌, rules}
use Rattle.std.specs.Prelude.{string_bytes, count_by, nat_le}
use Rattle.std.proofs.lemmas.Option.{slice_get-get_or, slice_get_past}
use Rattle.std.specs.List.Sorted.{IsNonDecreasingBy}
use Rattle.rust_items.specs.FilePlaces.{line_number}
use Rattle.rust_items.proofs.FileLines.{begun_at, not_begun, line_of_begins, lines_rise}
use Rattle.rust_items.proofs.lines.Lines.number.Goals as goal

pub lines_up_to-requires : goal.lines_up_to-requires
lines_up_to-requires c =
    let s = c.args.self.now in
    let found = c.in-Some.ensures.lookup in
    let got : slice_get s.begins.items c.args.pos.file ≡ Some c.in-Some.begins.now =
    ap (λ l. slice_get l c.args.pos.file) (sym c.deref.ensures.value) ∙ slice_get-get_or c.deref.result.now c.args.pos.file c.in-Some.begins.now found.3.0 ∙ ap Some (sym found.1) in
    let at = begun_at s.begins.items (map string_bytes s.files.now.texts.items) c.args.pos.file s.begun c.in-Some.begins.now got in
    let e : c.deref-in-Some.result.now ≡ c.in-Some.begins.now.items = search rules in
    subst (IsNonDecreasingBy (λ b. b)) (sym (e ∙ at.2)) (lines_rise at.0)

pub returns-in-Some : goal.returns-in-Some
returns-in-Some c =
    let s = c.args.self.now in
    let found = c.in-Some.ensures.lookup in
    let got : slice_get s.begins.items c.args.pos.file ≡ Some c.in-Some.begins.now =
    ap (λ l. slice_get l c.args.pos.file) (sym c.deref.ensures.value) ∙ slice_get-get_or c.deref.result.now c.args.pos.file c.in-Some.begins.now found.3.0 ∙ ap Some (sym found.1) in
    let at = begun_at s.begins.items (map string_bytes s.files.now.texts.items) c.args.pos.file s.begun c.in-Some.begins.now got in
    let e : c.deref-in-Some.result.now ≡ c.in-Some.begins.now.items = search rules in
    c.lines_up_to.ensures ∙ ap (count_by (λ b. nat_le b c.args.pos.offset)) (e ∙ at.2) ∙ line_of_begins at.0 c.args.pos.offset
    ∙ ap (λ o. line_number o c.args.pos.offset) (sym at.1)

pub returns-in-None : goal.returns-in-None
returns-in-None c =
    let s = c.args.self.now in
    let past : length s.begins.items ≤ c.args.pos.file = subst (λ l. length l ≤ c.args.pos.file) c.deref.ensures.value c.in-None.ensures.lookup.3 in
    let got = slice_get_past s.begins.items c.args.pos.file past in
    ap (λ o. line_number o c.args.pos.offset) (sym (not_begun s.begins.items (map string_bytes s.files.now.texts.items) c.args.pos.file s.begun got))
