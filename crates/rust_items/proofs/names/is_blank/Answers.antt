use Rattle.std.proofs.Common.{◌≡◌, false, sym, ap, ◌∙◌, rules}
use Rattle.std.specs.Prelude.{is_some}
use Rattle.std.specs.Char.{is_ascii_alphanumeric}
use Rattle.std.proofs.lemmas.Str.{chars_past_char}
use Rattle.rust_items.specs.RustNames.{is_blank}
use Rattle.rust_items.proofs.GrownTexts.{blank_one}
use Rattle.rust_items.proofs.names.is_blank.Goals as goal

pub returns-then-not-is_ascii_alphanumeric : goal.returns-then-not-is_ascii_alphanumeric
returns-then-not-is_ascii_alphanumeric c =
    let other : is_ascii_alphanumeric c.in-Some.c ≡ false = search rules in
    let next = c.next-then-not-is_ascii_alphanumeric.ensures.steps in
    blank_one c.in-Some.c _ _ other (ap is_some (sym next.2) ∙ c.is_none.ensures)
    ∙ ap is_blank (sym (chars_past_char c.args.name.now _ c.in-Some.c c.utf8.name (sym c.chars-left.ensures.rest ∙ c.in-Some.ensures.steps.0)))
